-- Small bundles in one configuration, computed: what is left of each, or its refusal with its place.
use Rattle.std.proofs.Common.{◌≡◌, ℕ, Bool, true, false, List, [], ◌∷◌, ◌++◌, map, refl, inl, inr, ◌⊎◌}
use Rattle.std.specs.Prelude.{codes, drop, is_some, replicate, take}
use Rattle.hv_base.specs.Bundles.{NamedFiles}
use Rattle.hv_base.specs.declared.held.Held.{Held}
use Rattle.hv_base.specs.declared.held.Held.TheVariants.{Bytes, Absent}
use Rattle.hv_base.specs.declared.place.Place.{Place}
use Rattle.hv_base.specs.declared.why.Why.{Why}
use Rattle.hv_base.specs.declared.why.Why.TheVariants.{OpenComment, BadDirective, Unbalanced, BadCondition, ErrorDirective, NoFile, IncludeTooDeep, BadDefine, BadInvocation, DirectiveInArguments, BadPaste, BadConstant, Syntax, TooDeep, Reserved}
use Rattle.hv_base.specs.declared.token.CTok.{CTok}
use Rattle.hv_base.specs.declared.token.CTok.TheVariants.{Name, Str}
use Rattle.hv_ctoks.specs.declared.reserved.ReservedNames.{ReservedNames}
use Rattle.hv_ctoks.specs.declared.reserved.ReservedNames.TheVariants.{Allowed, Refused}
use Rattle.hv_model.specs.Beginning.{beginning}
use Rattle.hv_plain.specs.episode.Episode.{episode}
use Rattle.hv_plain.specs.episode.Expansion.{run}
use Rattle.hv_plain.specs.gathering.Headers.{text_of_lines}
use Rattle.hv_plain.specs.gathering.Mentions.{cut, cut_text}
use Rattle.hv_plainpp.specs.Definitions.{definition}
use Rattle.hv_plainpp.specs.Directives.{Question, expression, if_}
use Rattle.hv_plainpp.specs.Expressions.{trees}
use Rattle.hv_plainpp.specs.Files.{Entered}
use Rattle.hv_plainpp.specs.Groups.{Progress, processing, over, Group, regrouped}
use Rattle.hv_plainpp.specs.CTokens.{Identity, given}
use Rattle.hv_plainpp.specs.Plainpp.{plainpp}
use Rattle.hv_plainpp.specs.Preprocessing.{unit, entered}
use Rattle.hv_plainpp.specs.Reading.{Met, Ending, reaches, refused, Reading}
use Rattle.hv_toks.specs.MacroState.{Entry, entries_of, meaning_of, number_token}
use Rattle.hv_toks.specs.Cutting.{Cutting, tokens, open_comment}
use Rattle.hv_toks.specs.declared.token.PpTok.{PpTok}
use Rattle.hv_toks.specs.Spelled.{Spelled}

------ bundles

abbrev at : (stack : List ℕ) → (file offset : ℕ) → Place
at stack file offset = record { stack = stack; file = file; offset = offset }

-- a main file and others
abbrev files : (main : List ℕ) → List (List ℕ × Held) → NamedFiles
files main others = record { main = codes "m"; dirs = []; entries = (codes "m", Bytes main) ∷ others }

abbrev alone : (main : List ℕ) → NamedFiles
alone main = files main []

-- the main file with these bytes
abbrev main : List ℕ → Entered
main bytes = record { file = record { number = 0; name = codes "m"; bytes = bytes }; stack = [] }

-- the option A alone, on or off
abbrev options : Bool → List Entry
options value = entries_of (beginning (codes "A" ∷ []) (value ∷ []))

------ what is left

data Seen : Type 0 where
  Gives : List ℕ → Seen
  Refuses : Why → Place → Seen

-- the spellings with a blank before each
abbrev shown : List (Spelled × Identity) → List ℕ
shown [] = []
shown (t ∷ more) = 32 ∷ (t.0.text ++ shown more)

abbrev seen_by : {A : Type 0} → List Met → Ending A → Seen
seen_by episodes (reaches value) = Gives (shown (given episodes))
seen_by episodes (refused why place) = Refuses why place

abbrev seen : {A : Type 0} → Reading A → Seen
seen r = seen_by r.met r.ending

-- the preprocessing tokens that are left of a bundle
abbrev left : NamedFiles → (on : Bool) → Seen
left bundle on = seen (unit bundle (options on))

------ refusals, each at its place

-- the places of the episodes that are met, with A on
abbrev places : NamedFiles → List Place
places bundle = map (λ (m : Met). m.place) (unit bundle (options true)).met

comment_open : left (alone (codes "a /* b")) true
    ≡ Refuses OpenComment (at [] 0 2)
unfolding entered cut_text episode run trees
comment_open = refl

no_directive : left (alone (text_of_lines (codes "x" ∷ codes "#y" ∷ []))) true
    ≡ Refuses BadDirective (at [] 0 2)
unfolding entered cut_text episode run trees
no_directive = refl

no_name : left (alone (text_of_lines (codes "#ifdef" ∷ []))) true
    ≡ Refuses BadDirective (at [] 0 0)
unfolding entered cut_text episode run trees
no_name = refl

no_header : left (alone (text_of_lines (codes "#include h" ∷ []))) true
    ≡ Refuses BadDirective (at [] 0 0)
unfolding entered cut_text episode run trees
no_header = refl

lone_else : left (alone (text_of_lines (codes "#else" ∷ []))) true
    ≡ Refuses Unbalanced (at [] 0 0)
unfolding entered cut_text episode run trees
lone_else = refl

-- also in a skipped group
behind_else : left (alone (text_of_lines (codes "#if 0" ∷ codes "#if 1" ∷ codes "#else" ∷ codes "#elif 1" ∷ []))) true
    ≡ Refuses Unbalanced (at [] 0 18)
unfolding entered cut_text episode run trees
behind_else = refl

open_group_at_end : left (alone (text_of_lines (codes "#ifdef A" ∷ codes "#ifdef B" ∷ []))) true
    ≡ Refuses Unbalanced (at [] 0 9)
unfolding entered cut_text episode run trees
open_group_at_end = refl

no_expression : left (alone (text_of_lines (codes "#if" ∷ []))) true
    ≡ Refuses BadCondition (at [] 0 0)
unfolding entered cut_text episode run trees
no_expression = refl

by_zero : left (alone (text_of_lines (codes "#if 1/0" ∷ []))) true
    ≡ Refuses BadCondition (at [] 0 0)
unfolding entered cut_text episode run trees
by_zero = refl

error_line : left (alone (text_of_lines (codes "#ifndef A" ∷ codes "#error A" ∷ codes "#endif" ∷ []))) false
    ≡ Refuses ErrorDirective (at [] 0 10)
unfolding entered cut_text episode run trees
error_line = refl

no_error : left (alone (text_of_lines (codes "#ifndef A" ∷ codes "#error A" ∷ codes "#endif" ∷ []))) true
    ≡ Gives []
unfolding entered cut_text episode run trees
no_error = refl

no_file : left (alone (text_of_lines (codes "#ifdef A" ∷ (codes "#include " ++ 34 ∷ (codes "b" ++ 34 ∷ [])) ∷ codes "#endif" ∷ []))) true
    ≡ Refuses NoFile (at [] 0 9)
unfolding entered cut_text episode run trees
no_file = refl

kept_name : left (alone (text_of_lines (codes "#undef __STDC__" ∷ []))) true
    ≡ Refuses BadDefine (at [] 0 0)
unfolding entered cut_text episode run trees
kept_name = refl

not_closed : left (alone (text_of_lines (codes "#define f(x)" ∷ codes "x f(" ∷ []))) true
    ≡ Refuses BadInvocation (at [] 0 15)
unfolding entered cut_text episode run trees
not_closed = refl

before_directive : left (alone (text_of_lines (codes "#define f(x)" ∷ codes "f" ∷ codes "#" ∷ []))) true
    ≡ Refuses DirectiveInArguments (at [] 0 13)
unfolding entered cut_text episode run trees
before_directive = refl

no_paste : left (alone (text_of_lines (codes "#define p(x)x##+" ∷ codes "p(1)" ∷ []))) true
    ≡ Refuses BadPaste (at [] 0 17)
unfolding entered cut_text episode run trees
no_paste = refl

-- an episode of a controlling line
on_a_line : left (alone (text_of_lines (codes "#define f(x)" ∷ codes "#if f(" ∷ []))) true
    ≡ Refuses BadInvocation (at [] 0 17)
unfolding entered cut_text episode run trees
on_a_line = refl

------ groups

-- the condition behind a processed group is not evaluated
first_true : left (alone (text_of_lines (codes "#if 0" ∷ codes "a" ∷ codes "#elif 1" ∷ codes "b" ∷ codes "#elif 1/0" ∷ codes "c" ∷ codes "#else" ∷ codes "d" ∷ codes "#endif" ∷ codes "e" ∷ []))) true
    ≡ Gives (codes " b e")
unfolding entered cut_text episode run trees
first_true = refl

none_true : left (alone (text_of_lines (codes "#ifdef B" ∷ codes "#else" ∷ codes "#ifndef A" ∷ codes "a" ∷ codes "#else" ∷ codes "b" ∷ codes "#endif" ∷ codes "#endif" ∷ []))) true
    ≡ Gives (codes " b")
unfolding entered cut_text episode run trees
none_true = refl

-- in a skipped group only the nesting counts
skipped_lines : left (alone (text_of_lines (codes "#if 0" ∷ codes "don't" ∷ codes "#x" ∷ codes "#ifdef" ∷ codes "#endif" ∷ codes "#endif" ∷ codes "a" ∷ []))) true
    ≡ Gives (codes " a")
unfolding entered cut_text episode run trees
skipped_lines = refl

-- directives end a text, met or not
cut_by_skipped : left (alone (text_of_lines (codes "#define f(x)" ∷ codes "f" ∷ codes "#if 0" ∷ codes "#x" ∷ codes "#endif" ∷ codes "(1)" ∷ []))) true
    ≡ Refuses DirectiveInArguments (at [] 0 13)
unfolding entered cut_text episode run trees
cut_by_skipped = refl

asked : left (alone (text_of_lines (codes "#if defined A && !defined(B)" ∷ codes "a" ∷ codes "#endif" ∷ []))) true
    ≡ Gives (codes " a")
unfolding entered cut_text episode run trees
asked = refl

------ definitions

redefined : left (alone (text_of_lines (codes "#define x 3" ∷ codes "x" ∷ codes "#undef x" ∷ codes "x" ∷ codes "#define x x y" ∷ codes "x" ∷ []))) true
    ≡ Gives (codes " 3 x x y")
unfolding entered cut_text episode run trees
redefined = refl

options_too : left (alone (text_of_lines (codes "#undef A" ∷ codes "A" ∷ codes "#define A" ∷ codes "A b" ∷ []))) true
    ≡ Gives (codes " A b")
unfolding entered cut_text episode run trees
options_too = refl

------ includes

guarded : left (files (text_of_lines ((codes "#include " ++ (34 ∷ []) ++ codes "h" ++ (34 ∷ [])) ∷ (codes "#include " ++ (34 ∷ []) ++ codes "h" ++ (34 ∷ [])) ∷ codes "a" ∷ [])) ((codes "h", Bytes (text_of_lines (codes "#ifndef H" ∷ codes "#define H" ∷ codes "b" ∷ codes "#endif" ∷ []))) ∷ [])) true
    ≡ Gives (codes " b a")
unfolding entered cut_text episode run trees
guarded = refl

-- one token of a header at two places
entered_twice : places (files (text_of_lines ((codes "#include " ++ (34 ∷ []) ++ codes "h" ++ (34 ∷ [])) ∷ (codes "#include " ++ (34 ∷ []) ++ codes "h" ++ (34 ∷ [])) ∷ codes "a" ∷ [])) ((codes "h", Bytes (codes "b")) ∷ []))
    ≡ at (0 ∷ []) 1 0 ∷ at (13 ∷ []) 1 0 ∷ at [] 0 26 ∷ []
unfolding entered cut_text episode run trees
entered_twice = refl

within_a_header : left (files (text_of_lines ((codes "#include " ++ (34 ∷ []) ++ codes "h" ++ (34 ∷ [])) ∷ [])) ((codes "h", Bytes (codes "b #")) ∷ [])) true
    ≡ Gives (codes " b #")
unfolding entered cut_text episode run trees
within_a_header = refl

open_in_header : left (files (text_of_lines (codes "a" ∷ (codes "#include " ++ (34 ∷ []) ++ codes "h" ++ (34 ∷ [])) ∷ [])) ((codes "h", Bytes (codes "/*")) ∷ [])) true
    ≡ Refuses OpenComment (at (2 ∷ []) 1 0)
unfolding entered cut_text episode run trees
open_in_header = refl

absent : left (files (text_of_lines ((codes "#include " ++ (34 ∷ []) ++ codes "h" ++ (34 ∷ [])) ∷ [])) ((codes "h", Absent) ∷ [])) true
    ≡ Refuses NoFile (at [] 0 0)
unfolding entered cut_text episode run trees
absent = refl

built_in_header : left (alone (text_of_lines (codes "#include <stdbool.h>" ∷ codes "bool true" ∷ []))) true
    ≡ Gives (codes " _Bool 1")
unfolding entered cut_text episode run trees
built_in_header = refl

-- a built-in header is a file of a number of its own
built_in_places : take 2 (places (alone (text_of_lines (codes "x" ∷ codes "#include <stddef.h>" ∷ []))))
    ≡ at [] 0 0 ∷ at (2 ∷ []) 4294967000 40 ∷ []
unfolding entered cut_text episode run trees
built_in_places = refl

in_itself : left (alone (text_of_lines ((codes "#include " ++ (34 ∷ []) ++ codes "m" ++ (34 ∷ [])) ∷ []))) true
    ≡ Refuses IncludeTooDeep (at (replicate 64 0) 0 0)
unfolding entered cut_text episode run trees
in_itself = refl

-- the header name is asked for before the depth
name_first : seen (entered 0 (alone (text_of_lines (codes "#include x" ∷ []))) (main (text_of_lines (codes "#include x" ∷ []))) [])
    ≡ Refuses BadDirective (at [] 0 0)
unfolding entered cut_text episode run trees
name_first = refl

too_deep : seen (entered 0 (alone (text_of_lines ((codes "#include " ++ (34 ∷ []) ++ codes "m" ++ (34 ∷ [])) ∷ []))) (main (text_of_lines ((codes "#include " ++ (34 ∷ []) ++ codes "m" ++ (34 ∷ [])) ∷ []))) [])
    ≡ Refuses IncludeTooDeep (at [] 0 0)
unfolding entered cut_text episode run trees
too_deep = refl

------ the limit on groups

-- groups that are open in the main file
abbrev open_groups : ℕ → Progress → List Group
open_groups n progress =
    replicate n (record { opened = at [] 0 0; progress = progress; behind_else = false })

abbrev grouped : Progress → ℕ → Question → Reading (List Group)
grouped progress n asked =
    regrouped (main []) (meaning_of (options true)) (at [] 0 7) (if_ asked)
    (open_groups n progress)

the_last : (grouped processing 255 (expression (number_token (codes "1") (at [] 0 10) ∷ []))).ending
    ≡ reaches (record { opened = at [] 0 7; progress = processing; behind_else = false }
    ∷ open_groups 255 processing)
unfolding episode run trees
the_last = refl

one_too_many : (grouped processing 256 (expression (number_token (codes "1") (at [] 0 10) ∷ []))).ending
    ≡ refused TooDeep (at [] 0 7)
unfolding episode run trees
one_too_many = refl

-- in a skipped group, too
skipped_too : (grouped over 256 (expression [])).ending ≡ refused TooDeep (at [] 0 7)
skipped_too = refl

-- the condition comes first
condition_first : (grouped processing 256 (expression [])).ending ≡ refused BadCondition (at [] 0 7)
condition_first = refl

------ definitions, well-formed and not

-- the tokens behind the name of a directive
abbrev behind_name : Cutting → List PpTok
behind_name (tokens toks) = drop 2 toks
behind_name (open_comment offset) = []

abbrev is_accepted : List ℕ → Bool
is_accepted text = is_some (definition (behind_name (cut 0 (codes "#define " ++ text))))

well_formed : map is_accepted (codes "X" ∷ codes "X+1" ∷ codes "f()" ∷ codes "f(...)" ∷ codes "f(x,...)x" ∷ codes "f(x)#x" ∷ codes "f(x)# x##x" ∷ codes "X #y" ∷ codes "X # # ##x#" ∷ codes "f(...)#__VA_ARGS__" ∷ codes "f(defined) defined" ∷ codes "__FILE__ 1" ∷ codes "f (x" ∷ codes "X a##b" ∷ codes "A 2" ∷ [])
    ≡ replicate 15 true
unfolding cut_text
well_formed = refl

malformed : map is_accepted ([] ∷ codes "1" ∷ codes "defined" ∷ codes "__VA_ARGS__ 1" ∷ codes "__STDC_VERSION__" ∷ codes "f(" ∷ codes "f(x" ∷ codes "f(x,)" ∷ codes "f(,x)" ∷ codes "f(x y)" ∷ codes "f(x...)" ∷ codes "f(...,x)" ∷ codes "f(x,x)" ∷ codes "f(__VA_ARGS__)" ∷ codes "f(__VA_ARGS__,...)" ∷ codes "X __VA_ARGS__" ∷ codes "f(x)__VA_ARGS__" ∷ codes "f(x)#y" ∷ codes "f(x)x #" ∷ codes "f(x)# #x" ∷ codes "X ##a" ∷ codes "X a##" ∷ codes "f(x)##x" ∷ codes "f(x)x##" ∷ [])
    ≡ replicate 24 false
unfolding cut_text
malformed = refl

------ tokens of C

-- what is left of a bundle as tokens of C, with the offsets of the places that identify them
abbrev tokens_of : Ending (List (CTok × Identity)) → List (CTok × ℕ) ⊎ (Why × Place)
tokens_of (reaches toks) = inl (map (λ t. (t.0, t.1.place.offset)) toks)
tokens_of (refused why place) = inr (why, place)

abbrev c_tokens : ReservedNames → NamedFiles → List (CTok × ℕ) ⊎ (Why × Place)
c_tokens reserved bundle = tokens_of (plainpp bundle (codes "A" ∷ []) (true ∷ []) reserved).ending

-- the first part identifies a joined literal
joined_strings : c_tokens Refused (alone (text_of_lines ((codes "#define s " ++ (34 ∷ []) ++ codes "b" ++ (34 ∷ [])) ∷ ((34 ∷ []) ++ codes "a" ++ (34 ∷ []) ++ codes " s " ++ (34 ∷ []) ++ codes "c" ++ (34 ∷ []) ++ codes " x") ∷ ((34 ∷ []) ++ codes "d" ++ (34 ∷ [])) ∷ [])))
    ≡ inl ((Str (codes "abc"), 14) ∷ (Name (codes "x"), 24) ∷ (Str (codes "d"), 26) ∷ [])
unfolding entered cut_text episode run trees
joined_strings = refl

bad_part : c_tokens Refused (alone (text_of_lines ((codes "x " ++ (34 ∷ []) ++ codes "a" ++ (34 ∷ [])) ∷ ((34 ∷ []) ++ codes "\\q" ++ (34 ∷ [])) ∷ [])))
    ≡ inr (BadConstant, at [] 0 6)
unfolding entered cut_text episode run trees
bad_part = refl

kept_for_hercules : c_tokens Refused (alone (text_of_lines (codes "x hv_y" ∷ [])))
    ≡ inr (Reserved, at [] 0 2)
unfolding entered cut_text episode run trees
kept_for_hercules = refl

not_kept : c_tokens Allowed (alone (text_of_lines (codes "x hv_y" ∷ [])))
    ≡ inl ((Name (codes "x"), 0) ∷ (Name (codes "hv_y"), 2) ∷ [])
unfolding entered cut_text episode run trees
not_kept = refl

-- refusals of tokens of C come behind all of preprocessing
preprocessing_first : c_tokens Refused (alone (text_of_lines (codes "1x" ∷ codes "#error" ∷ [])))
    ≡ inr (ErrorDirective, at [] 0 3)
unfolding entered cut_text episode run trees
preprocessing_first = refl

in_an_expansion : c_tokens Refused (alone (text_of_lines (codes "#define x (@)" ∷ codes "a x" ∷ [])))
    ≡ inr (Syntax, at [] 0 16)
unfolding entered cut_text episode run trees
in_an_expansion = refl

------ examples of the standard (6.10.3.5) and others, whole

rescanned : left (alone (text_of_lines (codes "#define x 3" ∷ codes "#define f(a) f(x * (a))" ∷ codes "#undef x" ∷ codes "#define x 2" ∷ codes "#define g f" ∷ codes "#define z z[0]" ∷ codes "#define t(a) a" ∷ codes "f(y+1) + f(f(z)) % t(t(g)(0) + t)(1);" ∷ []))) true
    ≡ Gives (codes " f ( 2 * ( y + 1 ) ) + f ( 2 * ( f ( 2 * ( z [ 0 ] ) ) ) ) % f ( 2 * ( 0 ) ) + t ( 1 ) ;")
unfolding entered cut_text episode run trees
rescanned = refl

abbrev two_faces : NamedFiles
two_faces = alone (text_of_lines (codes "int putchar(int);" ∷ codes "#ifdef A" ∷ codes "#define TWICE(x) ((x) + (x))" ∷ codes "#else" ∷ codes "#define TWICE(x) ((x) * 2 + 1)" ∷ codes "#endif" ∷ codes "#define SHOW(v) putchar(v)" ∷ codes "SHOW(TWICE(33));" ∷ []))

with_a : left two_faces true ≡ Gives (codes " int putchar ( int ) ; putchar ( ( ( 33 ) + ( 33 ) ) ) ;")
unfolding entered cut_text episode run trees
with_a = refl

without_a : left two_faces false ≡ Gives (codes " int putchar ( int ) ; putchar ( ( ( 33 ) * 2 + 1 ) ) ;")
unfolding entered cut_text episode run trees
without_a = refl

------ further refusals

open_at_end : left (alone (text_of_lines (codes "int main(void) { return 0; }" ∷ []) ++ codes "/* open")) true
    ≡ Refuses OpenComment (at [] 0 29)
unfolding entered cut_text episode run trees
open_at_end = refl

lone_elif : left (alone (text_of_lines (codes "x" ∷ codes "#elif 1" ∷ []))) true
    ≡ Refuses Unbalanced (at [] 0 2)
unfolding entered cut_text episode run trees
lone_elif = refl

lone_endif : left (alone (text_of_lines (codes "#if 0" ∷ codes "#endif" ∷ codes "#endif" ∷ []))) true
    ≡ Refuses Unbalanced (at [] 0 13)
unfolding entered cut_text episode run trees
lone_endif = refl

number_as_name : left (alone (text_of_lines (codes "#ifdef 1" ∷ []))) true
    ≡ Refuses BadDirective (at [] 0 0)
unfolding entered cut_text episode run trees
number_as_name = refl

odd_header : left (alone (text_of_lines ((codes "#include " ++ (34 ∷ []) ++ codes "\th" ++ (34 ∷ [])) ∷ []))) true
    ≡ Refuses BadDirective (at [] 0 0)
unfolding entered cut_text episode run trees
odd_header = refl

empty_header : left (alone (text_of_lines ((codes "#include " ++ (34 ∷ []) ++ (34 ∷ [])) ∷ []))) true
    ≡ Refuses BadDirective (at [] 0 0)
unfolding entered cut_text episode run trees
empty_header = refl

nothing_removed : left (alone (text_of_lines (codes "#undef" ∷ []))) true
    ≡ Refuses BadDefine (at [] 0 0)
unfolding entered cut_text episode run trees
nothing_removed = refl

-- a question that comes out of an expansion
late_defined : left (alone (text_of_lines (codes "#define d defined A" ∷ codes "#if d" ∷ []))) true
    ≡ Refuses BadCondition (at [] 0 20)
unfolding entered cut_text episode run trees
late_defined = refl

assigned : left (alone (text_of_lines (codes "#if A = 1" ∷ []))) true
    ≡ Refuses BadCondition (at [] 0 0)
unfolding entered cut_text episode run trees
assigned = refl

-- at the end of a file the text comes before the open group
not_closed_then_open : left (alone (text_of_lines (codes "#define f(x)" ∷ codes "#if A" ∷ codes "f(" ∷ []))) true
    ≡ Refuses BadInvocation (at [] 0 19)
unfolding entered cut_text episode run trees
not_closed_then_open = refl

------ further groups and headers

within_skipped : left (alone (text_of_lines (codes "#if 0" ∷ codes "#if 0" ∷ codes "#elif 1/0" ∷ codes "#else" ∷ codes "a" ∷ codes "#endif" ∷ codes "#else" ∷ codes "b" ∷ codes "#endif" ∷ []))) true
    ≡ Gives (codes " b")
unfolding entered cut_text episode run trees
within_skipped = refl

no_effect : left (alone (text_of_lines (codes "#pragma x" ∷ codes "#" ∷ codes "a" ∷ codes "# pragma" ∷ []))) true
    ≡ Gives (codes " a")
unfolding entered cut_text episode run trees
no_effect = refl

-- a main file in a folder, and an include folder
abbrev in_folders : (main : List ℕ) → NamedFiles
in_folders main = record {
  main = codes "s/m";
  dirs = codes "d" ∷ [];
  entries = (codes "s/m", Bytes main) ∷ (codes "s/h", Bytes (codes "beside"))
      ∷ (codes "d/h", Bytes (codes "folder")) ∷ (codes "s/k", Absent)
      ∷ (codes "d/k", Bytes (codes "other")) ∷ (codes "/h", Bytes (codes "root")) ∷ [];
}

beside_first : left (in_folders (text_of_lines ((codes "#include " ++ (34 ∷ []) ++ codes "h" ++ (34 ∷ [])) ∷ (codes "#include " ++ (34 ∷ []) ++ codes "k" ++ (34 ∷ [])) ∷ codes "#include <h>" ∷ codes "#include </h>" ∷ []))) true
    ≡ Gives (codes " beside other folder root")
unfolding entered cut_text episode run trees
beside_first = refl
