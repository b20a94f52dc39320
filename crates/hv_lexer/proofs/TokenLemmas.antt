-- A token, from what was taken off.
use Rattle.std.proofs.Common.{◌≡◌, ℕ, ◌+◌, ◌-◌, ◌<◌, ◌≤◌, Bool, List, refl, arith, length, get_or, take}
use Rattle.std.proofs.lemmas.List.{get_or-take, length-take-le}
use Rattle.hv_toks.specs.declared.prefix.LinePrefix.{LinePrefix}
use Rattle.hv_toks.specs.declared.token.PpKind.{PpKind}
use Rattle.hv_toks.specs.declared.token.PpTok.{PpTok}
use Rattle.hv_toks.specs.Cutting.{is_start, token}

abbrev pub made : (file : ℕ) (space : Bool) (kind : PpKind) (spelling : List ℕ) (start end : ℕ)
    (first : Bool) → PpTok
made file space kind spelling start end first =
    record {
      kind = kind;
      span = record { file = file; start = start; end = end };
      text = spelling;
      space = space;
      first = first;
    }

pub made-token : (file : ℕ) (line : LinePrefix) (space : Bool) (kind : PpKind)
    (text places : List ℕ) (n : ℕ) (spelling : List ℕ) (start end : ℕ) (first : Bool)
    → 0 < n → n ≤ length places → spelling ≡ take n text → start ≡ get_or places 0 0
    → end ≡ get_or places (n - 1) 0 + 1 → first ≡ is_start line
    → made file space kind spelling start end first
    ≡ token file line space kind (take n text) (take n places)
made-token file line space kind text places n spelling start end first some within e s f g =
    let a : get_or (take n places) 0 0 ≡ get_or places 0 0 = get_or-take n places 0 0 some in
    let l : length (take n places) ≡ n = length-take-le n places within in
    let b : get_or (take n places) (n - 1) 0 ≡ get_or places (n - 1) 0 =
    get_or-take n places (n - 1) 0 (omega arith) in
    rw (e, s, f, g, a, l, b) refl
