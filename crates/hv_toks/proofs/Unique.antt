-- A text is cut in one way.
use Rattle.std.proofs.Common.{◌≡◌, ℕ, Bool, true, false, List, refl, sym, ◌∙◌, take, drop, subst}
use Rattle.hv_toks.specs.declared.prefix.Prefix.TheVariants.{Comment, Token}
use Rattle.hv_toks.specs.declared.prefix.LinePrefix.{LinePrefix}
use Rattle.hv_toks.specs.declared.prefix.Match.{Match}
use Rattle.hv_toks.specs.Cutting.{Cutting, Cuts, prepend, at_end, at_white, at_newline, at_comment, at_open_comment, at_token, line_after, token}

same_comment : {file n m : ℕ} {line : LinePrefix} (text places : List ℕ) {out : Cutting}
    → Comment n ≡ Comment m
    → Cuts file line true (drop m text) (drop m places) out
    → Cuts file line true (drop n text) (drop n places) out
same_comment {file} {n} {m} {line} text places {out} e d = let p : m ≡ n = cc in
    subst (λ (k : ℕ). Cuts file line true (drop k text) (drop k places) out) p d

same_token : {file : ℕ} {n m : Match} (line : LinePrefix) (text places : List ℕ) {out : Cutting}
    → Token n ≡ Token m
    → Cuts file (line_after line (take m.len text)) false (drop m.len text) (drop m.len places) out
    → Cuts file (line_after line (take n.len text)) false (drop n.len text) (drop n.len places) out
same_token {file} {n} {m} line text places {out} e d = let p : m ≡ n = cc in
    subst (λ (k : Match). Cuts file (line_after line (take k.len text)) false (drop k.len text)
    (drop k.len places) out) p d

same_prepend : (file : ℕ) (line : LinePrefix) (space : Bool) (text places : List ℕ) (n m : Match)
    (a b : Cutting) → Token n ≡ Token m → a ≡ b
    → prepend (token file line space n.kind (take n.len text) (take n.len places)) a
    ≡ prepend (token file line space m.kind (take m.len text) (take m.len places)) b
same_prepend file line space text places n m a b e s = let p : n ≡ m = cc in rw (p, s) refl

pub unique : {file : ℕ} {line : LinePrefix} {space : Bool} {text places : List ℕ} {a b : Cutting}
    → Cuts file line space text places a → Cuts file line space text places b → a ≡ b
unique (at_end e) (at_end f) = refl
unique (at_end e) (at_white f d) = cc
unique (at_end e) (at_newline f d) = cc
unique (at_end e) (at_comment k f d) = cc
unique (at_end e) (at_open_comment f) = cc
unique (at_end e) (at_token k f d) = cc
unique (at_white e c) (at_end f) = cc
unique (at_white e c) (at_white f d) = unique c d
unique (at_white e c) (at_newline f d) = cc
unique (at_white e c) (at_comment k f d) = cc
unique (at_white e c) (at_open_comment f) = cc
unique (at_white e c) (at_token k f d) = cc
unique (at_newline e c) (at_end f) = cc
unique (at_newline e c) (at_white f d) = cc
unique (at_newline e c) (at_newline f d) = unique c d
unique (at_newline e c) (at_comment k f d) = cc
unique (at_newline e c) (at_open_comment f) = cc
unique (at_newline e c) (at_token k f d) = cc
unique (at_comment n e c) (at_end f) = cc
unique (at_comment n e c) (at_white f d) = cc
unique (at_comment n e c) (at_newline f d) = cc
unique {line = line} {text = text} {places = places} (at_comment n e c) (at_comment k f d) =
    unique c (same_comment text places (sym e ∙ f) d)
unique (at_comment n e c) (at_open_comment f) = cc
unique (at_comment n e c) (at_token k f d) = cc
unique (at_open_comment e) (at_end f) = cc
unique (at_open_comment e) (at_white f d) = cc
unique (at_open_comment e) (at_newline f d) = cc
unique (at_open_comment e) (at_comment k f d) = cc
unique (at_open_comment e) (at_open_comment f) = refl
unique (at_open_comment e) (at_token k f d) = cc
unique (at_token m e c) (at_end f) = cc
unique (at_token m e c) (at_white f d) = cc
unique (at_token m e c) (at_newline f d) = cc
unique (at_token m e c) (at_comment k f d) = cc
unique (at_token m e c) (at_open_comment f) = cc
unique {line = line} {text = text} {places = places} (at_token m e c) (at_token k f d) =
    same_prepend _ _ _ _ _ m k _ _ (sym e ∙ f)
    (unique c (same_token line text places (sym e ∙ f) d))
