use Rattle.std.proofs.Common.{◌≡◌, List, ℕ, [], ◌∷◌}
use Rattle.std.proofs.lemmas.Result.{err_from_is_err_and}
use Rattle.hv_model.specs.Bytes.{lines_of, without_return}
use Rattle.hv_model.specs.Lines.{Reading, Reads, Says}
use Rattle.hv_model.specs.Model.{IsRefusalIn}
use Rattle.hv_model.specs.Rule.{Features}
use Rattle.hv_model.specs.declared.faults.ModelRefusal.{ModelRefusal}
use Rattle.hv_model.proofs.ReadModel.{refusal_map}
use Rattle.hv_model.proofs.model.read_lines.Goals as goal

refused_line : (bytes rest more line cut : List ℕ) (m : Features) (n : ℕ) (refusal : ModelRefusal)
    → ((o : Reading) → Reads m n (lines_of rest) o → Says bytes o)
    → lines_of rest ≡ without_return line ∷ lines_of more
    → cut ≡ without_return line
    → IsRefusalIn (Reads m n (cut ∷ lines_of more)) refusal
    → IsRefusalIn (Says bytes) refusal
refused_line bytes rest more line cut m n refusal f e g h =
    refusal_map (Reads m n (lines_of rest)) (Says bytes) f refusal (rw e (rw (← g) h))

pub returns-in_err-add_line-clause-refused : goal.returns-in_err-add_line-clause-refused
returns-in_err-add_line-clause-refused c =
    let p = err_from_is_err_and c.from_residual.result c.from_residual.ensures.1 in
    rw (p.1, p.2) (refused_line c.args.bytes.now c.loop-line.rest.now c.in-Some.more.now
    c.in-Some.line.now c.strip_return.result.now c.loop-line.model c.loop-line.number
    c.in_err-add_line.field-0.0
    c.loop-line.invariant.0 c.in-Some.ensures.some c.strip_return.ensures
    (c.in_err-add_line.ensures.refused (lines_of c.in-Some.more.now)))

ended : (m : Features) (n : ℕ) (rest : List ℕ) (o : Reading) → rest ≡ [] → Reads m n [] o
    → Reads m n (lines_of rest) o
ended m n rest o e h = rw e h

pub returns-clause-read : goal.returns-clause-read
returns-clause-read c = λ o h.
    c.loop-line.invariant.0 o
    (ended c.loop-line.model c.loop-line.number c.loop-line.rest.now o c.in_default.ensures.none
    (h c.loop-line.number))
