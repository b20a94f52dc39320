-- What one step of a substitution is, by the part that is next.
use Rattle.std.proofs.Common.{◌≡◌, ℕ, zero, suc, Bool, true, false, List, [], ◌∷◌, ◌++◌, Option, Some, None, refl, sym, ap, ◌∙◌, ◌<◌, ◌==◌, arith, length, map}
use Rattle.std.specs.Prelude.{◌||◌, ◌↔◌, IsTrue}
use Rattle.std.proofs.lemmas.Bool.Decides.{nat_tests}
use Rattle.std.proofs.lemmas.List.{map-append}
use Rattle.std.specs.Option.{option_map}
use Rattle.hv_toks.specs.Macro.{Macro}
use Rattle.hv_plain.specs.episode.Bodies.{Operand, Part, expanded, single, joined}
use Rattle.hv_plain.specs.episode.Substitution.{Scan, Frame, Filled, whole, waits, broken, argument, space_of, stands_for, join, fill, substituted}
use Rattle.hv_plain.specs.episode.Tokens.{Token, hiding, spaced, still_owed}
use Rattle.hv_rescan.specs.Values.{givens_of, operand_of, part_of, token_of, tokens_of}
use Rattle.hv_rescan.specs.declared.part.Operand.{Operand as Operand'}
use Rattle.hv_rescan.specs.declared.part.Part.{Part as Part'}
use Rattle.hv_rescan.specs.declared.part.Part.TheVariants as part'
use Rattle.hv_rescan.specs.declared.token.Given.{Given}
use Rattle.hv_rescan.specs.declared.token.Token.{Token as Token'}
use Rattle.hv_rescan.specs.working.Steps.{Takes, placed}
use Rattle.hv_rescan.proofs.Scans.{none_is, taken_is}

pub fill_expanded_none : (f : Frame) (i : ℕ) (space : Bool) (ps : List Part) (owed : Bool)
    (built last : List Token) → argument f.arguments i ≡ []
    → fill f (expanded i space ∷ ps) owed built last ≡ fill f ps (space || owed) (built ++ last) []
fill_expanded_none f i space ps owed built last e =
    ap (λ (ts : List Token). elim ts as (λ v. Filled) [
      | [] ↦ fill f ps (space || owed) (built ++ last) []
      | t ∷ tokens ↦ waits t tokens
          (record f { rest = ps; built = built ++ last; owed = space || owed })
    ]) e

pub fill_expanded_some : (f : Frame) (i : ℕ) (space : Bool) (ps : List Part) (owed : Bool)
    (built last : List Token) (t : Token) (ts : List Token) → argument f.arguments i ≡ t ∷ ts
    → fill f (expanded i space ∷ ps) owed built last
    ≡ waits t ts (record f { rest = ps; built = built ++ last; owed = space || owed })
fill_expanded_some f i space ps owed built last t ts e =
    ap (λ (ts : List Token). elim ts as (λ v. Filled) [
      | [] ↦ fill f ps (space || owed) (built ++ last) []
      | t ∷ tokens ↦ waits t tokens
          (record f { rest = ps; built = built ++ last; owed = space || owed })
    ]) e

pub fill_single : (f : Frame) (o : Operand) (ps : List Part) (owed : Bool)
    (built last tokens : List Token) → stands_for f.arguments (space_of o || owed) o ≡ tokens
    → fill f (single o ∷ ps) owed built last
    ≡ fill f ps (still_owed (space_of o || owed) tokens) (built ++ last) tokens
fill_single f o ps owed built last tokens e =
    ap (λ (ts : List Token). fill f ps (still_owed (space_of o || owed) ts) (built ++ last) ts) e

abbrev joins : Frame → List Part → Bool → List Token → Option (List Token) → Filled
joins f ps owed built both =
    elim both [ None ↦ broken | Some tokens ↦ fill f ps owed built tokens ]

pub fill_joined : (f : Frame) (o : Operand) (ps : List Part) (owed : Bool)
    (built last tokens : List Token) (both : Option (List Token))
    → stands_for f.arguments (space_of o || owed) o ≡ tokens → join last tokens ≡ both
    → fill f (joined o ∷ ps) owed built last
    ≡ joins f ps (still_owed (space_of o || owed) tokens) built both
fill_joined f o ps owed built last tokens both e h =
    let sp : Bool = space_of o || owed in
    ap (λ (ts : List Token). joins f ps (still_owed sp ts) built (join last ts)) e
    ∙ ap (λ (b : Option (List Token)). joins f ps (still_owed sp tokens) built b) h

pub placed_is : (f : Frame) (tokens : List Token)
    → placed f.around tokens f.hides f.space ≡ substituted f tokens
placed_is f [] = refl
placed_is f (t ∷ tokens) = refl

pub placed_some : (around : Scan) (tokens : List Token) (hides : List (List ℕ)) (space : Bool)
    → 0 < length tokens
    → placed around tokens hides space
    ≡ record around { ahead = hiding hides (spaced space tokens) ++ around.ahead }
placed_some around [] hides space h = absurd (omega arith)
placed_some around (t ∷ tokens) hides space h = refl

------ parts and tokens of the code

pub first_single : (rest left : List Part') (p : Part') (o : Operand')
    → rest ≡ p ∷ left → p ≡ part'.Single o
    → map part_of rest ≡ single (operand_of o) ∷ map part_of left
first_single rest left p o e h =
    ap (λ (ps : List Part'). map part_of ps) e
    ∙ ap (λ (q : Part'). part_of q ∷ map part_of left) h

pub first_joined : (rest left : List Part') (p : Part') (o : Operand')
    → rest ≡ p ∷ left → p ≡ part'.Joined o
    → map part_of rest ≡ joined (operand_of o) ∷ map part_of left
first_joined rest left p o e h =
    ap (λ (ps : List Part'). map part_of ps) e
    ∙ ap (λ (q : Part'). part_of q ∷ map part_of left) h

first_expanded : (rest left : List Part') (p : Part') (i : ℕ) (space : Bool)
    → rest ≡ p ∷ left → p ≡ part'.Expanded i space
    → map part_of rest ≡ expanded i space ∷ map part_of left
first_expanded rest left p i space e h =
    ap (λ (ps : List Part'). map part_of ps) e
    ∙ ap (λ (q : Part'). part_of q ∷ map part_of left) h

pub tokens-append : (macros : List ℕ → Macro) (xs ys zs : List Token') → zs ≡ xs ++ ys
    → tokens_of macros zs ≡ tokens_of macros xs ++ tokens_of macros ys
tokens-append macros xs ys zs e =
    ap (tokens_of macros) e ∙ map-append (token_of macros) xs ys

pub owes_or : (s owed owes : Bool) → s ≡ true → owes ≡ true → owes ≡ (s || owed)
owes_or s owed owes h e = e ∙ sym (ap (λ (b : Bool). b || owed) h)

pub owes_not : (s owed owes : Bool) → s ≡ false → owes ≡ owed → owes ≡ (s || owed)
owes_not s owed owes h e = e ∙ sym (ap (λ (b : Bool). b || owed) h)

owes_still : (macros : List ℕ → Macro) (xs : List Token') (n : ℕ) → length xs ≡ n
    → still_owed true (tokens_of macros xs) ≡ (n == 0)
owes_still macros [] zero h = refl
owes_still macros [] (suc n) h = absurd (omega arith)
owes_still macros (x ∷ xs) zero h = absurd (omega arith)
owes_still macros (x ∷ xs) (suc n) h = grind (arith, nat_tests)

pub owed_where_empty : (macros : List ℕ → Macro) (xs : List Token') (n : ℕ) (owes empty owed : Bool)
    → owes ≡ true → owed ≡ empty → empty ≡ (n == 0) → length xs ≡ n
    → owed ≡ still_owed owes (tokens_of macros xs)
owed_where_empty macros xs n owes empty owed h e k l =
    e ∙ k ∙ sym (owes_still macros xs n l)
    ∙ sym (ap (λ (b : Bool). still_owed b (tokens_of macros xs)) h)

pub owed_where_none : (given : List Given) (owes empty owed : Bool)
    → owes ≡ true → owed ≡ empty → IsTrue empty ↔ (given ≡ [])
    → owed ≡ still_owed owes (givens_of given)
owed_where_none [] true true owed h e k = e
owed_where_none [] true false owed h e k = let n : false ≡ true = k.1 refl in cc
owed_where_none [] false empty owed h e k = cc
owed_where_none (g ∷ gs) owes true owed h e k = let n : g ∷ gs ≡ [] = k.0 refl in cc
owed_where_none (g ∷ gs) owes false owed h e k = e

pub owed_never : (owes owed : Bool) (ts : List Token) → owes ≡ false → owed ≡ owes
    → owed ≡ still_owed owes ts
owed_never owes owed [] h e = e
owed_never owes owed (t ∷ ts) h e = e ∙ h

------ one iteration

-- a parameter whose argument is empty
pub expanded_none : (macros : List ℕ → Macro) (f : Frame) (rest left : List Part') (p : Part')
    (i : ℕ) (space owed owes : Bool) (built both last none : List Token) (next : Option Token')
    (before after : List Token)
    → rest ≡ p ∷ left → p ≡ part'.Expanded i space → owes ≡ (space || owed)
    → before ≡ argument f.arguments i → next ≡ None
    → Takes (option_map (token_of macros) next) before after
    → both ≡ built ++ last → none ≡ []
    → fill f (map part_of left) owes both none ≡ fill f (map part_of rest) owed built last
expanded_none macros f rest left p i space owed owes built both last none next before after r e o a n t b l =
    ap (λ (w : Bool). fill f (map part_of left) w both none) o
    ∙ ap (λ (ts : List Token). fill f (map part_of left) (space || owed) ts none) b
    ∙ ap (fill f (map part_of left) (space || owed) (built ++ last)) l
    ∙ sym (fill_expanded_none f i space (map part_of left) owed built last
    (sym a ∙ none_is macros next before after n t))
    ∙ sym (ap (λ (ps : List Part). fill f ps owed built last)
    (first_expanded rest left p i space r e))

-- a parameter whose argument has a first token
pub expanded_some : (macros : List ℕ → Macro) (f : Frame) (rest left : List Part') (p : Part')
    (i : ℕ) (space owed owes : Bool) (built both last : List Token) (next : Option Token')
    (first : Token') (before after : List Token)
    → rest ≡ p ∷ left → p ≡ part'.Expanded i space → owes ≡ (space || owed)
    → before ≡ argument f.arguments i → next ≡ Some first
    → Takes (option_map (token_of macros) next) before after
    → both ≡ built ++ last
    → waits (token_of macros first) after
    (record f { rest = map part_of left; built = both; owed = owes })
    ≡ fill f (map part_of rest) owed built last
expanded_some macros f rest left p i space owed owes built both last next first before after r e o a n t b =
    let u : Token = token_of macros first in
    ap (λ (w : Bool). waits u after (record f { rest = map part_of left; built = both; owed = w })) o
    ∙ ap (λ (ts : List Token). waits u after
    (record f { rest = map part_of left; built = ts; owed = space || owed })) b
    ∙ sym (fill_expanded_some f i space (map part_of left) owed built last u after
    (sym a ∙ sym (taken_is macros next first before after n t)))
    ∙ sym (ap (λ (ps : List Part). fill f ps owed built last)
    (first_expanded rest left p i space r e))

pub steps_single : (f : Frame) (o : Operand) (ps : List Part) (owed owes still : Bool)
    (built last tokens both : List Token) → owes ≡ (space_of o || owed)
    → still ≡ still_owed owes tokens → tokens ≡ stands_for f.arguments owes o
    → both ≡ built ++ last
    → fill f ps still both tokens ≡ fill f (single o ∷ ps) owed built last
steps_single f o ps owed owes still built last tokens both e k h b =
    ap (λ (w : Bool). fill f ps w both tokens)
    (k ∙ ap (λ (w : Bool). still_owed w tokens) e)
    ∙ ap (λ (ts : List Token). fill f ps (still_owed (space_of o || owed) tokens) ts tokens) b
    ∙ sym (fill_single f o ps owed built last tokens
    (sym (h ∙ ap (λ (w : Bool). stands_for f.arguments w o) e)))

pub steps_joined : (f : Frame) (o : Operand) (ps : List Part) (owed owes still : Bool)
    (built last tokens both : List Token) → owes ≡ (space_of o || owed)
    → still ≡ still_owed owes tokens → tokens ≡ stands_for f.arguments owes o
    → Some both ≡ join last tokens
    → fill f ps still built both ≡ fill f (joined o ∷ ps) owed built last
steps_joined f o ps owed owes still built last tokens both e k h b =
    ap (λ (w : Bool). fill f ps w built both)
    (k ∙ ap (λ (w : Bool). still_owed w tokens) e)
    ∙ sym (fill_joined f o ps owed built last tokens (Some both)
    (sym (h ∙ ap (λ (w : Bool). stands_for f.arguments w o) e)) (sym b))

------ white space that a substitution owed before it went on

substituted_owed : (f : Frame) (b : Bool) (ts : List Token)
    → substituted (record f { owed = b }) ts ≡ substituted f ts
substituted_owed f b [] = refl
substituted_owed f b (t ∷ ts) = refl

abbrev expands : Frame → Bool → List Part → List Token → List Token → Filled
expands f owed ps built ts = elim ts as (λ v. Filled) [
  | [] ↦ fill f ps owed built []
  | t ∷ tokens ↦ waits t tokens (record f { rest = ps; built = built; owed = owed })
]

expands_owed : (f : Frame) (b owed : Bool) (ps : List Part) (built ts : List Token)
    → fill (record f { owed = b }) ps owed built [] ≡ fill f ps owed built []
    → expands (record f { owed = b }) owed ps built ts ≡ expands f owed ps built ts
expands_owed f b owed ps built [] h = h
expands_owed f b owed ps built (t ∷ ts) h = refl

joins_owed : (f : Frame) (b owed : Bool) (ps : List Part) (built : List Token)
    (both : Option (List Token))
    → ((ts : List Token) → fill (record f { owed = b }) ps owed built ts ≡ fill f ps owed built ts)
    → joins (record f { owed = b }) ps owed built both ≡ joins f ps owed built both
joins_owed f b owed ps built None h = refl
joins_owed f b owed ps built (Some ts) h = h ts

pub fill_owed : (f : Frame) (b : Bool) (ps : List Part) (owed : Bool) (built last : List Token)
    → fill (record f { owed = b }) ps owed built last ≡ fill f ps owed built last
fill_owed f b [] owed built last = ap whole (substituted_owed f b (built ++ last))
fill_owed f b (expanded i space ∷ ps) owed built last =
    expands_owed f b (space || owed) ps (built ++ last) (argument f.arguments i)
    (fill_owed f b ps (space || owed) (built ++ last) [])
fill_owed f b (single o ∷ ps) owed built last =
    let tokens : List Token = stands_for f.arguments (space_of o || owed) o in
    fill_owed f b ps (still_owed (space_of o || owed) tokens) (built ++ last) tokens
fill_owed f b (joined o ∷ ps) owed built last =
    let tokens : List Token = stands_for f.arguments (space_of o || owed) o in
    joins_owed f b (still_owed (space_of o || owed) tokens) ps built (join last tokens)
    (λ (ts : List Token). fill_owed f b ps (still_owed (space_of o || owed) tokens) built ts)
