-- A source has at most one body.
use Rattle.std.proofs.Common.{◌≡◌, ℕ, eqb, get_or, true, false, List, [], ◌∷◌, ◌++◌, map, refl, sym, ◌∙◌, ap, arith, codes}
use Rattle.std.specs.List.{AllByRecursion}
use Rattle.std.proofs.lemmas.Fmt.{decimal_injective}
use Rattle.std.proofs.lemmas.List.{append_cancel_left, append_cancel_right}
use Rattle.std.proofs.lemmas.List.Elements.{recursion_from_All}
use Rattle.std.proofs.lemmas.Bool.Decides.{Decides-eqb}
use Rattle.std.specs.Fmt.{decimal}
use Rattle.hv_plain.specs.Bytes.{trimmed}
use Rattle.hv_base.proofs.Lists.{heads}
use Rattle.hv_plain.specs.Source.{SourceLine, put, if_defined, if_not_defined, otherwise, end_if, spelled, IsSourceLine, IsSmallSource}

-- texts that differ at a place are two
pub differ_at : {P : Type 0} (k : ℕ) (s t : List ℕ) → s ≡ t
    → eqb (get_or s k 0) (get_or t k 0) ≡ false → P
differ_at k s t e apart =
    let same : eqb (get_or t k 0) (get_or t k 0) ≡ true =
    (Decides-eqb (get_or t k 0) (get_or t k 0)).1 refl in
    let other : eqb (get_or t k 0) (get_or t k 0) ≡ false =
    ap (λ (text : List ℕ). eqb (get_or text k 0) (get_or t k 0)) (sym e) ∙ apart in
    let wrong : true ≡ false = sym same ∙ other in cc

module _ (options : List (List ℕ)) where
  -- two lines of one spelling are one
  pub spelled-injective : (a b : SourceLine) → IsSourceLine options a → IsSourceLine options b
      → spelled a ≡ spelled b → a ≡ b
  spelled-injective (put m) (put n) p q e =
      ap put (decimal_injective m n (omega arith) (omega arith)
      (append_cancel_left (codes "putchar(") (decimal m) (decimal n)
      (append_cancel_right (codes "putchar(" ++ decimal m) (codes "putchar(" ++ decimal n)
      (codes ");") e)))
  spelled-injective (put m) (if_defined b) p q e =
      differ_at 0 (spelled (put m)) (spelled (if_defined b)) e refl
  spelled-injective (put m) (if_not_defined b) p q e =
      differ_at 0 (spelled (put m)) (spelled (if_not_defined b)) e refl
  spelled-injective (put m) otherwise p q e =
      differ_at 0 (spelled (put m)) (spelled otherwise) e refl
  spelled-injective (put m) end_if p q e = differ_at 0 (spelled (put m)) (spelled end_if) e refl
  spelled-injective (if_defined a) (put n) p q e =
      differ_at 0 (spelled (if_defined a)) (spelled (put n)) e refl
  spelled-injective (if_defined a) (if_defined b) p q e =
      ap if_defined (append_cancel_left (codes "#ifdef ") a b e)
  spelled-injective (if_defined a) (if_not_defined b) p q e =
      differ_at 3 (spelled (if_defined a)) (spelled (if_not_defined b)) e refl
  spelled-injective (if_defined a) otherwise p q e =
      differ_at 1 (spelled (if_defined a)) (spelled otherwise) e refl
  spelled-injective (if_defined a) end_if p q e =
      differ_at 1 (spelled (if_defined a)) (spelled end_if) e refl
  spelled-injective (if_not_defined a) (put n) p q e =
      differ_at 0 (spelled (if_not_defined a)) (spelled (put n)) e refl
  spelled-injective (if_not_defined a) (if_defined b) p q e =
      differ_at 3 (spelled (if_not_defined a)) (spelled (if_defined b)) e refl
  spelled-injective (if_not_defined a) (if_not_defined b) p q e =
      ap if_not_defined (append_cancel_left (codes "#ifndef ") a b e)
  spelled-injective (if_not_defined a) otherwise p q e =
      differ_at 1 (spelled (if_not_defined a)) (spelled otherwise) e refl
  spelled-injective (if_not_defined a) end_if p q e =
      differ_at 1 (spelled (if_not_defined a)) (spelled end_if) e refl
  spelled-injective otherwise (put n) p q e =
      differ_at 0 (spelled otherwise) (spelled (put n)) e refl
  spelled-injective otherwise (if_defined b) p q e =
      differ_at 1 (spelled otherwise) (spelled (if_defined b)) e refl
  spelled-injective otherwise (if_not_defined b) p q e =
      differ_at 1 (spelled otherwise) (spelled (if_not_defined b)) e refl
  spelled-injective otherwise otherwise p q e = refl
  spelled-injective otherwise end_if p q e = differ_at 2 (spelled otherwise) (spelled end_if) e refl
  spelled-injective end_if (put n) p q e = differ_at 0 (spelled end_if) (spelled (put n)) e refl
  spelled-injective end_if (if_defined b) p q e =
      differ_at 1 (spelled end_if) (spelled (if_defined b)) e refl
  spelled-injective end_if (if_not_defined b) p q e =
      differ_at 1 (spelled end_if) (spelled (if_not_defined b)) e refl
  spelled-injective end_if otherwise p q e = differ_at 2 (spelled end_if) (spelled otherwise) e refl
  spelled-injective end_if end_if p q e = refl

  pub map_spelled-injective : (xs ys : List SourceLine) → AllByRecursion (IsSourceLine options) xs
      → AllByRecursion (IsSourceLine options) ys → map spelled xs ≡ map spelled ys → xs ≡ ys
  map_spelled-injective [] [] p q e = refl
  map_spelled-injective [] (y ∷ ys) p q e = cc
  map_spelled-injective (x ∷ xs) [] p q e = cc
  map_spelled-injective (x ∷ xs) (y ∷ ys) p q e =
      let parts = heads (spelled x) (spelled y) (map spelled xs) (map spelled ys) e in
      let first = spelled-injective x y p.0 q.0 parts.0 in
      let rest = map_spelled-injective xs ys p.1 q.1 parts.1 in cc

  pub body-unique : (source : List ℕ) (one other : List SourceLine)
      → IsSmallSource options source one → IsSmallSource options source other → one ≡ other
  body-unique source one other p q =
      let texts = append_cancel_right p.texts q.texts ([] ∷ []) (sym p.cut ∙ q.cut) in
      let lines = sym p.lines ∙ ap (map trimmed) texts ∙ q.lines in
      let bodies =
      append_cancel_left (codes "int putchar(int);" ∷ codes "int main(void) {" ∷ [])
      (map spelled one ++ codes "}" ∷ []) (map spelled other ++ codes "}" ∷ []) lines in
      map_spelled-injective one other (recursion_from_All (IsSourceLine options) one p.each_line)
      (recursion_from_All (IsSourceLine options) other q.each_line)
      (append_cancel_right (map spelled one) (map spelled other) (codes "}" ∷ []) bodies)
