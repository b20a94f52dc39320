-- What the reader of lines answers, and the lines that were read.
use Rattle.std.specs.Prelude.{◌≡◌, ℕ, List, [], IsTrue}
use Rattle.hv_model.specs.Lines as lines
use Rattle.hv_model.specs.Lines.{Reading, Reads, Says}
use Rattle.hv_model.specs.Name.{is_option_name}
use Rattle.hv_model.specs.Rule.{Features}
use Rattle.hv_model.specs.Token.{tokens}
use Rattle.hv_model.specs.declared.model_line.ModelLine.{ModelLine}
use Rattle.hv_model.specs.declared.model_line.ModelLine.TheVariants.{Nothing, Option, Rule, Bad}

-- the reader's answer is what the line says
abbrev pub IsLine : lines.ModelLine → ModelLine → Type 0
IsLine line Nothing = line ≡ lines.nothing
IsLine line (Option name) = (line ≡ lines.option_line name.now) × IsTrue (is_option_name name.now)
IsLine line (Rule text) = line ≡ lines.rule_line (tokens text.now)
IsLine line Bad = line ≡ lines.bad_line

-- the file's lines made this model, without a fault: what the end says after them, the file says
abbrev pub IsRead : List ℕ → Features → Type 0
IsRead bytes m = (o : Reading) → ((n : ℕ) → Reads m n [] o) → Says bytes o
