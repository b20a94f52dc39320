-- Expansions whose tokens differ at most in the digits that are the answers to `defined` go on
-- alike.
use Rattle.std.proofs.Common.{◌≡◌, ℕ, zero, suc, Bool, true, false, List, [], ◌∷◌, ◌++◌, Option, Some, None, refl, ap, ◌∙◌, subst}
use Rattle.std.specs.Prelude.{◌||◌, ◌&&◌, ◌==◌, nat_eq, nat_lt, nat_le, length, min, codes}
use Rattle.std.specs.Str.{bytes_eq}
use Rattle.hv_base.specs.Ascii as ascii
use Rattle.hv_base.specs.declared.why.Why.{Why}
use Rattle.hv_base.specs.declared.why.Why.TheVariants.{BadInvocation, BadPaste, DirectiveInArguments}
use Rattle.hv_toks.specs.Cutting.{whole_token}
use Rattle.hv_toks.specs.declared.macros.Body.{Body}
use Rattle.hv_toks.specs.declared.macros.Body.TheVariants.{Object, Function}
use Rattle.hv_toks.specs.declared.token.PpKind.{PpKind}
use Rattle.hv_toks.specs.declared.token.PpKind.TheVariants.{Identifier, Number, CharConstant, StringLiteral, HeaderName, Punctuator, Other}
use Rattle.hv_plain.specs.declared.episode.RunEnd.{RunEnd}
use Rattle.hv_plain.specs.declared.episode.RunEnd.TheVariants.{Directive, FileEnd, Line}
use Rattle.hv_plain.specs.episode.Alike.{same, zero_one, one_zero, Alike, end, next, alike_refl, alike_append, byte_alike, whole_token_alike}
use Rattle.hv_plain.specs.episode.Bodies.{Operand, token, parameter, string, Part, expanded, single, joined, parts}
use Rattle.hv_plain.specs.episode.Expansion.{Deed, give, use_macro, stop, State, at, done, refused, first_of_text, alone, settle, begin, unclosed, invoke, tail, used, after}
use Rattle.hv_plain.specs.episode.Invocation.{Mark, opening, closing, comma, none as no_mark, mark, Taken, ends_argument, take_arguments, has_count, takes}
use Rattle.hv_plain.specs.episode.Substitution.{escaped, quoted, blank, more_quoted, argument_quoted, string_token, paste, join, argument, space_of, stands_for, Scan, Frame, Filled, whole, waits, broken, substituted, fill, resume}
use Rattle.hv_plain.specs.episode.Tokens.{Token, both, either, hiding, spaced, owing, still_owed}

------ tokens

abbrev pub made : PpKind → List ℕ → Bool → List (List ℕ) → Token
made kind text space hides = record { kind = kind; text = text; space = space; hides = hides }

-- two tokens differ at most in digits
pub data AlikeToken : Token → Token → Type 0 where
  one_token : (kind : PpKind) {x y : List ℕ} (space : Bool) (hides : List (List ℕ)) → Alike x y
      → AlikeToken (made kind x space hides) (made kind y space hides)

pub data AlikeTokens : List Token → List Token → Type 0 where
  none : AlikeTokens [] []
  more : {t u : Token} {ts us : List Token} → AlikeToken t u → AlikeTokens ts us
      → AlikeTokens (t ∷ ts) (u ∷ us)

pub same_token : {t u : Token} → AlikeToken t u → t.text ≡ u.text → t ≡ u
same_token (one_token kind space hides p) e = ap (λ (x : List ℕ). made kind x space hides) e

pub tokens_refl : (ts : List Token) → AlikeTokens ts ts
tokens_refl [] = none
tokens_refl (t ∷ ts) = more (one_token t.kind t.space t.hides (alike_refl t.text)) (tokens_refl ts)

tokens_append : {ts us vs ws : List Token} → AlikeTokens ts us → AlikeTokens vs ws
    → AlikeTokens (ts ++ vs) (us ++ ws)
tokens_append none q = q
tokens_append (more t p) q = more t (tokens_append p q)

tokens_length : {ts us : List Token} → AlikeTokens ts us → length ts ≡ length us
tokens_length none = refl
tokens_length (more t p) = ap suc (tokens_length p)

hiding_alike : (names : List (List ℕ)) {ts us : List Token} → AlikeTokens ts us
    → AlikeTokens (hiding names ts) (hiding names us)
hiding_alike names none = none
hiding_alike names (more (one_token kind space hides p) q) =
    more (one_token kind space (either hides names) p) (hiding_alike names q)

spaced_alike : (space : Bool) {ts us : List Token} → AlikeTokens ts us
    → AlikeTokens (spaced space ts) (spaced space us)
spaced_alike space none = none
spaced_alike space (more (one_token kind _ hides p) q) = more (one_token kind space hides p) q

owing_alike : (owed : Bool) {ts us : List Token} → AlikeTokens ts us
    → AlikeTokens (owing owed ts) (owing owed us)
owing_alike owed none = none
owing_alike owed (more (one_token kind space hides p) q) =
    more (one_token kind (space || owed) hides p) q

still_owed_alike : (owed : Bool) {ts us : List Token} → AlikeTokens ts us
    → still_owed owed ts ≡ still_owed owed us
still_owed_alike owed none = refl
still_owed_alike owed (more t p) = refl

------ `#`

abbrev escaped_byte : Bool → ℕ → List ℕ → List ℕ
escaped_byte v byte bytes = elim v [ true ↦ ascii.backslash ∷ byte ∷ bytes | false ↦ byte ∷ bytes ]

escaped_same : (v : Bool) (byte : ℕ) {x y : List ℕ} → Alike x y
    → Alike (escaped_byte v byte x) (escaped_byte v byte y)
escaped_same true byte p = next (same ascii.backslash) (next (same byte) p)
escaped_same false byte p = next (same byte) p

escaped_alike : {x y : List ℕ} → Alike x y → Alike (escaped x) (escaped y)
escaped_alike end = end
escaped_alike (next (same byte) p) =
    escaped_same (byte == ascii.quote || byte == ascii.backslash) byte (escaped_alike p)
escaped_alike (next zero_one p) = next zero_one (escaped_alike p)
escaped_alike (next one_zero p) = next one_zero (escaped_alike p)

quoted_alike : (kind : PpKind) {x y : List ℕ} → Alike x y → Alike (quoted kind x) (quoted kind y)
quoted_alike Identifier p = p
quoted_alike Number p = p
quoted_alike CharConstant p = escaped_alike p
quoted_alike StringLiteral p = escaped_alike p
quoted_alike HeaderName p = p
quoted_alike Punctuator p = p
quoted_alike Other p = p

more_quoted_alike : {ts us : List Token} → AlikeTokens ts us
    → Alike (more_quoted ts) (more_quoted us)
more_quoted_alike none = end
more_quoted_alike (more (one_token kind space hides p) q) =
    alike_append (alike_append (alike_refl (blank space)) (quoted_alike kind p))
    (more_quoted_alike q)

argument_quoted_alike : {ts us : List Token} → AlikeTokens ts us
    → Alike (argument_quoted ts) (argument_quoted us)
argument_quoted_alike none = end
argument_quoted_alike (more (one_token kind space hides p) q) =
    alike_append (quoted_alike kind p) (more_quoted_alike q)

string_alike : (space : Bool) {ts us : List Token} → AlikeTokens ts us
    → AlikeToken (string_token ts space) (string_token us space)
string_alike space p = one_token StringLiteral space []
    (next (same ascii.quote) (alike_append (argument_quoted_alike p)
    (alike_refl (ascii.quote ∷ []))))

------ `##`

data AlikePasted : Option Token → Option Token → Type 0 where
  not_pasted : AlikePasted None None
  pasted : {t u : Token} → AlikeToken t u → AlikePasted (Some t) (Some u)

abbrev pasted_as : Option PpKind → List ℕ → Bool → List (List ℕ) → Option Token
pasted_as kind text space hides =
    elim kind [ None ↦ None | Some k ↦ Some (made k text space hides) ]

pasted_alike : (kind : Option PpKind) {x y : List ℕ} (space : Bool) (hides : List (List ℕ))
    → Alike x y
    → AlikePasted (pasted_as kind x space hides) (pasted_as kind y space hides)
pasted_alike None space hides p = not_pasted
pasted_alike (Some k) space hides p = pasted (one_token k space hides p)

paste_alike : {t u v w : Token} → AlikeToken t u → AlikeToken v w
    → AlikePasted (paste t v) (paste u w)
paste_alike (one_token kind {x = x} {y = y} space hides p)
    (one_token _ {x = v} {y = w} _ others q) =
    subst (λ k. AlikePasted (pasted_as (whole_token (x ++ v)) (x ++ v) space (both hides others))
    (pasted_as k (y ++ w) space (both hides others))) (whole_token_alike (alike_append p q))
    (pasted_alike (whole_token (x ++ v)) space (both hides others) (alike_append p q))

data AlikeJoined : Option (List Token) → Option (List Token) → Type 0 where
  not_joined : AlikeJoined None None
  joined_as : {ts us : List Token} → AlikeTokens ts us → AlikeJoined (Some ts) (Some us)

joined_last : {o p : Option Token} {ts us : List Token} → AlikePasted o p → AlikeTokens ts us
    → AlikeJoined (elim o [ None ↦ None | Some v ↦ Some (v ∷ ts) ])
    (elim p [ None ↦ None | Some v ↦ Some (v ∷ us) ])
joined_last not_pasted q = not_joined
joined_last (pasted t) q = joined_as (more t q)

joined_first : {o p : Option (List Token)} {t u : Token} → AlikeToken t u → AlikeJoined o p
    → AlikeJoined (elim o [ None ↦ None | Some tokens ↦ Some (t ∷ tokens) ])
    (elim p [ None ↦ None | Some tokens ↦ Some (u ∷ tokens) ])
joined_first t not_joined = not_joined
joined_first t (joined_as q) = joined_as (more t q)

join_alike : {ts us vs ws : List Token} → AlikeTokens ts us → AlikeTokens vs ws
    → AlikeJoined (join ts vs) (join us ws)
join_alike none q = joined_as q
join_alike (more t none) none = joined_as (more t none)
join_alike (more t none) (more u q) = joined_last (paste_alike t u) q
join_alike (more t (more v p)) q = joined_first t (join_alike (more v p) q)

------ substitution

pub data AlikeArguments : List (List Token) → List (List Token) → Type 0 where
  no_more : AlikeArguments [] []
  one_more : {ts us : List Token} {xs ys : List (List Token)} → AlikeTokens ts us
      → AlikeArguments xs ys
      → AlikeArguments (ts ∷ xs) (us ∷ ys)

argument_alike : {xs ys : List (List Token)} → AlikeArguments xs ys → (i : ℕ)
    → AlikeTokens (argument xs i) (argument ys i)
argument_alike no_more i = none
argument_alike (one_more p q) zero = p
argument_alike (one_more p q) (suc i) = argument_alike q i

stands_for_alike : {xs ys : List (List Token)} → AlikeArguments xs ys → (space : Bool) (o : Operand)
    → AlikeTokens (stands_for xs space o) (stands_for ys space o)
stands_for_alike a space (token s) = more (one_token s.kind space [] (alike_refl s.text)) none
stands_for_alike a space (parameter i _) = spaced_alike space (argument_alike a i)
stands_for_alike a space (string i _) = more (string_alike space (argument_alike a i)) none

abbrev pub scanned : List Token → ℕ → List Token → Scan
scanned ahead unread given = record { ahead = ahead; unread = unread; given = given }

-- what was given is equal
pub data AlikeScan : Scan → Scan → Type 0 where
  scan : {ts us : List Token} (unread : ℕ) (given : List Token) → AlikeTokens ts us
      → AlikeScan (scanned ts unread given) (scanned us unread given)

abbrev pub framed : Scan → List (List Token) → List Part → List Token → Bool → List (List ℕ) → Bool
    → Frame
framed around arguments rest built owed hides space = record {
  around = around;
  arguments = arguments;
  rest = rest;
  built = built;
  owed = owed;
  hides = hides;
  space = space;
}

pub data AlikeFrame : Frame → Frame → Type 0 where
  frame : {s r : Scan} {xs ys : List (List Token)} {ts us : List Token} (rest : List Part)
      (owed : Bool)
      (hides : List (List ℕ)) (space : Bool) → AlikeScan s r → AlikeArguments xs ys
      → AlikeTokens ts us
      → AlikeFrame (framed s xs rest ts owed hides space) (framed r ys rest us owed hides space)

data AlikeFilled : Filled → Filled → Type 0 where
  whole_as : {s r : Scan} → AlikeScan s r → AlikeFilled (whole s) (whole r)
  waits_as : {t u : Token} {ts us : List Token} {f g : Frame} → AlikeToken t u → AlikeTokens ts us
      → AlikeFrame f g
      → AlikeFilled (waits t ts f) (waits u us g)
  broken_as : AlikeFilled broken broken

arguments_of : {f g : Frame} → AlikeFrame f g → AlikeArguments f.arguments g.arguments
arguments_of (frame rest owed hides space s a p) = a

substituted_alike : {f g : Frame} {ts us : List Token} → AlikeFrame f g → AlikeTokens ts us
    → AlikeScan (substituted f ts) (substituted g us)
substituted_alike (frame rest owed hides space (scan unread given q) a b) none =
    scan unread given (owing_alike space q)
substituted_alike (frame rest owed hides space (scan unread given q) a b) (more t p) =
    scan unread given (tokens_append (hiding_alike hides (spaced_alike space (more t p))) q)

waiting_alike : {f g : Frame} {ts us : List Token} → AlikeFrame f g
    → (rest : List Part) (owed : Bool)
    → AlikeTokens ts us
    → AlikeFrame (record f { rest = rest; built = ts; owed = owed })
    (record g { rest = rest; built = us; owed = owed })
waiting_alike (frame _ _ hides space s a b) rest owed p = frame rest owed hides space s a p

expanded_case : {ts us : List Token} {m n : Filled} {f g : Frame} → AlikeTokens ts us
    → AlikeFilled m n → AlikeFrame f g
    → AlikeFilled (elim ts [ [] ↦ m | t ∷ tokens ↦ waits t tokens f ])
    (elim us [ [] ↦ n | t ∷ tokens ↦ waits t tokens g ])
expanded_case none h a = h
expanded_case (more t p) h a = waits_as t p a

joined_case : {o p : Option (List Token)} (m n : List Token → Filled) → AlikeJoined o p
    → ((ts us : List Token) → AlikeTokens ts us → AlikeFilled (m ts) (n us))
    → AlikeFilled (elim o [ None ↦ broken | Some both ↦ m both ])
    (elim p [ None ↦ broken | Some both ↦ n both ])
joined_case m n not_joined h = broken_as
joined_case m n (joined_as {ts = ts} {us = us} q) h = h ts us q

fill_alike : {f g : Frame} → AlikeFrame f g
    → (ps : List Part) (owed : Bool) {ts us vs ws : List Token}
    → AlikeTokens ts us → AlikeTokens vs ws
    → AlikeFilled (fill f ps owed ts vs) (fill g ps owed us ws)
fill_alike a [] owed p q = whole_as (substituted_alike a (tokens_append p q))
fill_alike a (expanded i space ∷ ps) owed p q =
    expanded_case (argument_alike (arguments_of a) i)
    (fill_alike a ps (space || owed) (tokens_append p q) none)
    (waiting_alike a ps (space || owed) (tokens_append p q))
fill_alike {f} {g} a (single o ∷ ps) owed {ts} {us} {vs} {ws} p q =
    let space : Bool = space_of o || owed in
    let x : List Token = stands_for f.arguments space o in
    let y : List Token = stands_for g.arguments space o in
    let s : AlikeTokens x y = stands_for_alike (arguments_of a) space o in
    subst (λ w. AlikeFilled (fill f ps (still_owed space x) (ts ++ vs) x)
    (fill g ps w (us ++ ws) y))
    (still_owed_alike space s) (fill_alike a ps (still_owed space x) (tokens_append p q) s)
fill_alike {f} {g} a (joined o ∷ ps) owed {ts} {us} {vs} {ws} p q =
    let space : Bool = space_of o || owed in
    let x : List Token = stands_for f.arguments space o in
    let y : List Token = stands_for g.arguments space o in
    let s : AlikeTokens x y = stands_for_alike (arguments_of a) space o in
    joined_case (fill f ps (still_owed space x) ts) (fill g ps (still_owed space y) us)
    (join_alike q s)
    (λ v w r. subst (λ k. AlikeFilled (fill f ps (still_owed space x) ts v) (fill g ps k us w))
    (still_owed_alike space s) (fill_alike a ps (still_owed space x) p r))

resume_alike : {f g : Frame} → AlikeFrame f g → (given : List Token)
    → AlikeFilled (resume f given) (resume g given)
resume_alike (frame rest owed hides space s a b) given =
    fill_alike (frame rest owed hides space s a b) rest (still_owed owed given) b
    (spaced_alike owed (tokens_refl given))

------ invocations

empty_alike : {x y : List ℕ} → Alike x y → bytes_eq x [] ≡ bytes_eq y []
empty_alike end = refl
empty_alike (next q p) = refl

sign_alike : (k : ℕ) → nat_eq 48 k ≡ nat_eq 49 k → {x y : List ℕ} → Alike x y
    → bytes_eq x (k ∷ []) ≡ bytes_eq y (k ∷ [])
sign_alike k h end = refl
sign_alike k h (next {b = b} {c = c} {x = x} {y = y} q p) =
    ap (λ (v : Bool). v && bytes_eq x []) (byte_alike (λ v. nat_eq v k) h q)
    ∙ ap (λ (v : Bool). nat_eq c k && v) (empty_alike p)

abbrev mark_as : Bool → Bool → Bool → Mark
mark_as a b c =
    elim a [
      | true ↦ opening
      | false ↦ elim b [
        | true ↦ closing
        | false ↦ elim c [ true ↦ comma | false ↦ no_mark ]
      ]
    ]

mark_alike : {x y : List ℕ} → Alike x y → mark x ≡ mark y
mark_alike {x} {y} p =
    ap (λ v. mark_as v (bytes_eq x (codes ")")) (bytes_eq x (codes ","))) (sign_alike 40 refl p)
    ∙ (ap (λ v. mark_as (bytes_eq y (codes "(")) v (bytes_eq x (codes ","))) (sign_alike 41 refl p)
    ∙ ap (λ v. mark_as (bytes_eq y (codes "(")) (bytes_eq y (codes ")")) v) (sign_alike 44 refl p))

arguments_length : {xs ys : List (List Token)} → AlikeArguments xs ys → length xs ≡ length ys
arguments_length no_more = refl
arguments_length (one_more p q) = ap suc (arguments_length q)

arguments_append : {xs ys : List (List Token)} {ts us : List Token} → AlikeArguments xs ys
    → AlikeTokens ts us
    → AlikeArguments (xs ++ ts ∷ []) (ys ++ us ∷ [])
arguments_append no_more q = one_more q no_more
arguments_append (one_more p r) q = one_more p (arguments_append r q)

ends_alike : (body : Body) {xs ys : List (List Token)} → AlikeArguments xs ys
    → ends_argument body xs ≡ ends_argument body ys
ends_alike (Object body) a = refl
ends_alike (Function params true body) a = ap (λ n. nat_lt n (length params)) (arguments_length a)
ends_alike (Function params false body) a = refl

count_alike : (n : ℕ) {xs ys : List (List Token)} → AlikeArguments xs ys
    → has_count n xs ≡ has_count n ys
count_alike zero no_more = refl
count_alike zero (one_more none no_more) = refl
count_alike zero (one_more (more t p) no_more) = refl
count_alike zero (one_more none (one_more q a)) =
    ap (λ k. nat_eq (suc (suc k)) zero) (arguments_length a)
count_alike zero (one_more (more t p) (one_more q a)) =
    ap (λ k. nat_eq (suc (suc k)) zero) (arguments_length a)
count_alike (suc n) a = ap (λ k. nat_eq k (suc n)) (arguments_length a)

takes_alike : (body : Body) {xs ys : List (List Token)} → AlikeArguments xs ys
    → takes body xs ≡ takes body ys
takes_alike (Object body) a = refl
takes_alike (Function params true body) a = ap (nat_le (length params)) (arguments_length a)
takes_alike (Function params false body) a = count_alike (length params) a

abbrev took : List (List Token) → List (List ℕ) → List Token → Taken
took arguments hides tokens = record { arguments = arguments; hides = hides; after = tokens }

data AlikeTaken : Option Taken → Option Taken → Type 0 where
  not_taken : AlikeTaken None None
  taken_as : {xs ys : List (List Token)} {ts us : List Token} (hides : List (List ℕ))
      → AlikeArguments xs ys
      → AlikeTokens ts us → AlikeTaken (Some (took xs hides ts)) (Some (took ys hides us))

-- what is done with the next token of an argument, where `go` takes the rest
abbrev taking : (ℕ → List Token → List (List Token) → Option Taken) → Bool → Mark → ℕ → List Token
    → List (List Token) → Token → List Token → Option Taken
taking go splits m depth argument arguments t tokens = elim m [
  | opening ↦ go (suc depth) (argument ++ t ∷ []) arguments
  | closing ↦ elim depth [
    | zero ↦ Some (took (arguments ++ argument ∷ []) t.hides tokens)
    | suc outer ↦ go outer (argument ++ t ∷ []) arguments
  ]
  | comma ↦ elim depth [
    | zero ↦ elim splits [
      | true ↦ go zero [] (arguments ++ argument ∷ [])
      | false ↦ go zero (argument ++ t ∷ []) arguments
    ]
    | suc outer ↦ go (suc outer) (argument ++ t ∷ []) arguments
  ]
  | no_mark ↦ go depth (argument ++ t ∷ []) arguments
]

taking_alike : (go others : ℕ → List Token → List (List Token) → Option Taken)
    → ((n : ℕ) (v w : List Token) (xs ys : List (List Token)) → AlikeTokens v w
    → AlikeArguments xs ys → AlikeTaken (go n v xs) (others n w ys))
    → (splits : Bool) (m : Mark) (depth : ℕ) {ts us vs ws : List Token} {xs ys : List (List Token)}
    {t u : Token}
    → AlikeTokens vs ws → AlikeArguments xs ys → AlikeToken t u → AlikeTokens ts us
    → AlikeTaken (taking go splits m depth vs xs t ts) (taking others splits m depth ws ys u us)
taking_alike go others h splits opening depth q a t p =
    h (suc depth) _ _ _ _ (tokens_append q (more t none)) a
taking_alike go others h splits closing zero q a (one_token kind space hides r) p =
    taken_as hides (arguments_append a q) p
taking_alike go others h splits closing (suc outer) q a t p =
    h outer _ _ _ _ (tokens_append q (more t none)) a
taking_alike go others h true comma zero q a t p = h zero _ _ _ _ none (arguments_append a q)
taking_alike go others h false comma zero q a t p = h zero _ _ _ _ (tokens_append q (more t none)) a
taking_alike go others h splits comma (suc outer) q a t p =
    h (suc outer) _ _ _ _ (tokens_append q (more t none)) a
taking_alike go others h splits no_mark depth q a t p =
    h depth _ _ _ _ (tokens_append q (more t none)) a

take_alike : (body : Body) (depth : ℕ) {ts us vs ws : List Token} {xs ys : List (List Token)}
    → AlikeTokens vs ws
    → AlikeArguments xs ys → AlikeTokens ts us
    → AlikeTaken (take_arguments body depth vs xs ts) (take_arguments body depth ws ys us)
take_alike body depth q a none = not_taken
take_alike body depth {vs = vs} {ws = ws} {xs = xs} {ys = ys} q a
    (more {ts = ts} {us = us} (one_token kind {x = x} {y = y} space hides r) p) =
    let go : ℕ → List Token → List (List Token) → Option Taken =
    λ n v c. take_arguments body n v c ts in
    let others : ℕ → List Token → List (List Token) → Option Taken =
    λ n v c. take_arguments body n v c us in
    let t : Token = made kind x space hides in
    let u : Token = made kind y space hides in
    subst (λ m. AlikeTaken (taking go (ends_argument body xs) (mark x) depth vs xs t ts)
    (taking others (ends_argument body ys) m depth ws ys u us)) (mark_alike r)
    (subst (λ s. AlikeTaken (taking go (ends_argument body xs) (mark x) depth vs xs t ts)
    (taking others s (mark x) depth ws ys u us)) (ends_alike body a)
    (taking_alike go others (λ n v w c d e f. take_alike body n e f p) (ends_argument body xs)
    (mark x) depth q a (one_token kind space hides r) p))

------ states

pub data AlikeFrames : List Frame → List Frame → Type 0 where
  no_frames : AlikeFrames [] []
  frames : {f g : Frame} {fs gs : List Frame} → AlikeFrame f g → AlikeFrames fs gs
      → AlikeFrames (f ∷ fs) (g ∷ gs)

pub data AlikeState : State → State → Type 0 where
  at_as : {t u : Token} {s r : Scan} {fs gs : List Frame} → AlikeToken t u → AlikeScan s r
      → AlikeFrames fs gs
      → AlikeState (at t s fs) (at u r gs)
  done_as : {s r : Scan} → AlikeScan s r → AlikeState (done s) (done r)
  refused_as : (why : Why) → AlikeState (refused why) (refused why)

abbrev first_as : Bool → List Token → ℕ → List Token → List Frame → State → State
first_as v ahead unread given fs at_end = elim v [
  | true ↦ at_end
  | false ↦ elim ahead [ [] ↦ at_end | t ∷ tokens ↦ at t (scanned tokens unread given) fs ]
]

first_case : (v : Bool) (unread : ℕ) (given : List Token) {ts us : List Token} {fs gs : List Frame}
    {m n : State}
    → AlikeTokens ts us → AlikeFrames fs gs → AlikeState m n
    → AlikeState (first_as v ts unread given fs m) (first_as v us unread given gs n)
first_case true unread given p f h = h
first_case false unread given none f h = h
first_case false unread given (more t p) f h = at_as t (scan unread given p) f

first_alike : {s r : Scan} {fs gs : List Frame} {m n : State} → AlikeScan s r → AlikeFrames fs gs
    → AlikeState m n
    → AlikeState (first_of_text s fs m) (first_of_text r gs n)
first_alike {fs = fs} {gs = gs} {m = m} {n = n} (scan {ts = ts} {us = us} unread given p) f h =
    subst (λ k. AlikeState (first_as (nat_le (length ts) unread) ts unread given fs m)
    (first_as (nat_le k unread) us unread given gs n))
    (tokens_length p) (first_case (nat_le (length ts) unread) unread given p f h)

settled_case : (m n : Scan → State) {v w : Filled} {fs gs : List Frame} → AlikeFilled v w
    → AlikeFrames fs gs
    → ((s r : Scan) → AlikeScan s r → AlikeState (m s) (n r))
    → AlikeState (elim
    v [
      | whole around ↦ m around
      | waits t tokens f ↦ at t (alone tokens) (f ∷ fs)
      | broken ↦ refused BadPaste
    ])
    (elim w [
      | whole around ↦ n around
      | waits t tokens f ↦ at t (alone tokens) (f ∷ gs)
      | broken ↦ refused BadPaste
    ])
settled_case m n (whole_as {s = s} {r = r} a) f h = h s r a
settled_case m n (waits_as t p g) f h = at_as t (scan 0 [] p) (frames g f)
settled_case m n broken_as f h = refused_as BadPaste

settle_alike : {fs gs : List Frame} {s r : Scan} → AlikeFrames fs gs → AlikeScan s r
    → AlikeState (settle fs s) (settle gs r)
settle_alike no_frames a = first_alike a no_frames (done_as a)
settle_alike (frames {fs = fs} {gs = gs} g f) (scan unread given p) =
    first_alike (scan unread given p) (frames g f)
    (settled_case (settle fs) (settle gs) (resume_alike g given) f (λ s r a. settle_alike f a))

begin_alike : (t : Token) {s r : Scan} {fs gs : List Frame} (body : Body)
    {xs ys : List (List Token)} (hides : List (List ℕ))
    → AlikeScan s r → AlikeFrames fs gs → AlikeArguments xs ys
    → AlikeState (begin t s fs body xs hides) (begin t r gs body ys hides)
begin_alike t body hides s f a =
    settle_alike (frames (frame (parts body) false (t.text ∷ hides) t.space s a none) f)
    (scan 0 [] none)

unclosed_alike : (ends : RunEnd) {fs gs : List Frame} → AlikeFrames fs gs
    → unclosed ends fs ≡ unclosed ends gs
unclosed_alike Directive no_frames = refl
unclosed_alike Directive (frames g f) = refl
unclosed_alike FileEnd f = refl
unclosed_alike Line f = refl

invoked_case : (v : Bool) {m n : State} → AlikeState m n
    → AlikeState (elim v [ true ↦ m | false ↦ refused BadInvocation ])
    (elim v [ true ↦ n | false ↦ refused BadInvocation ])
invoked_case true h = h
invoked_case false h = refused_as BadInvocation

scan_as : {n m : ℕ} (given : List Token) {ts us : List Token} → n ≡ m → AlikeTokens ts us
    → AlikeScan (scanned ts n given) (scanned us m given)
scan_as {n} given {ts} {us} e p =
    subst (λ k. AlikeScan (scanned ts n given) (scanned us k given)) e (scan n given p)

invoke_alike : (ends : RunEnd) (t : Token) {s r : Scan} {fs gs : List Frame} (body : Body)
    {v w : Option Taken}
    → AlikeScan s r → AlikeFrames fs gs → AlikeTaken v w
    → AlikeState (invoke ends t s fs body v) (invoke ends t r gs body w)
invoke_alike ends t {fs = fs} {gs = gs} body s f not_taken =
    subst (λ why. AlikeState (refused (unclosed ends fs)) (refused why)) (unclosed_alike ends f)
    (refused_as (unclosed ends fs))
invoke_alike ends t {fs = fs} {gs = gs} body (scan {ts = vs} {us = ws} unread given q) f
    (taken_as {xs = xs} {ys = ys} {ts = ts} {us = us} hides a p) =
    let m : State =
    begin t (scanned ts (min unread (length ts)) given) fs body xs (both t.hides hides) in
    let n : State =
    begin t (scanned us (min unread (length us)) given) gs body ys (both t.hides hides) in
    subst (λ v. AlikeState (elim (takes body xs) [ true ↦ m | false ↦ refused BadInvocation ])
    (elim v [ true ↦ n | false ↦ refused BadInvocation ]))
    (takes_alike body a)
    (invoked_case (takes body xs)
    (begin_alike t body (both t.hides hides) (scan_as given (ap (min unread) (tokens_length p)) p) f
    a))

tail_alike : {ts us : List Token} → AlikeTokens ts us → AlikeTokens (tail ts) (tail us)
tail_alike none = none
tail_alike (more t p) = p

used_alike : (ends : RunEnd) (t : Token) {s r : Scan} {fs gs : List Frame} (body : Body)
    → AlikeScan s r → AlikeFrames fs gs
    → AlikeState (used ends t s fs body) (used ends t r gs body)
used_alike ends t (Object body) s f = begin_alike t (Object body) t.hides s f no_more
used_alike ends t (Function params variadic body) (scan unread given p) f =
    invoke_alike ends t (Function params variadic body) (scan unread given p) f
    (take_alike (Function params variadic body) 0 none no_more (tail_alike p))

pub after_alike : (ends : RunEnd) (t : Token) {s r : Scan} {fs gs : List Frame} (d : Deed)
    → AlikeScan s r → AlikeFrames fs gs
    → AlikeState (after ends t s fs d) (after ends t r gs d)
after_alike ends t give (scan unread given p) f = settle_alike f (scan unread (given ++ t ∷ []) p)
after_alike ends t (use_macro place body) s f = used_alike ends t body s f
after_alike ends t stop s f = refused_as DirectiveInArguments
