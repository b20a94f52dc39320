-- Bytes that have names, and classes of bytes (5.2.1, 6.4). Each class has a function of the same
-- name in `hv_base`. Not in here: universal character names.
use Rattle.std.specs.Prelude.{ℕ, Bool, true, false, ◌&&◌, ◌||◌, ◌==◌, nat_le, List, [], ◌∷◌}
use Rattle.std.specs.List.{list_any}
use Rattle.std.specs.Str.{bytes_eq}

------ names

-- the zero byte, which ends no text here
abbrev pub null : ℕ
null = 0

-- a horizontal tab
abbrev pub tab : ℕ
tab = 9

-- what ends a line
abbrev pub newline : ℕ
newline = 10

-- a vertical tab
abbrev pub vertical_tab : ℕ
vertical_tab = 11

-- a form feed
abbrev pub form_feed : ℕ
form_feed = 12

-- a carriage return
abbrev pub carriage_return : ℕ
carriage_return = 13

-- a space
abbrev pub space : ℕ
space = 32

-- `!`
abbrev pub exclamation : ℕ
exclamation = 33

-- `"`
abbrev pub quote : ℕ
quote = 34

-- `#`
abbrev pub hash : ℕ
hash = 35

-- `%`
abbrev pub percent : ℕ
percent = 37

-- `&`
abbrev pub ampersand : ℕ
ampersand = 38

-- `'`
abbrev pub apostrophe : ℕ
apostrophe = 39

-- `(`
abbrev pub left_parenthesis : ℕ
left_parenthesis = 40

-- `)`
abbrev pub right_parenthesis : ℕ
right_parenthesis = 41

-- `*`
abbrev pub star : ℕ
star = 42

-- `+`
abbrev pub plus : ℕ
plus = 43

-- `,`
abbrev pub comma : ℕ
comma = 44

-- `-`
abbrev pub minus : ℕ
minus = 45

-- `.`
abbrev pub dot : ℕ
dot = 46

-- `/`
abbrev pub slash : ℕ
slash = 47

-- `0`
abbrev pub zero_digit : ℕ
zero_digit = 48

-- `1`
abbrev pub one_digit : ℕ
one_digit = 49

-- `9`
abbrev pub nine_digit : ℕ
nine_digit = 57

-- `:`
abbrev pub colon : ℕ
colon = 58

-- `;`
abbrev pub semicolon : ℕ
semicolon = 59

-- `<`
abbrev pub less : ℕ
less = 60

-- `=`
abbrev pub equal : ℕ
equal = 61

-- `>`
abbrev pub greater : ℕ
greater = 62

-- `?`
abbrev pub question : ℕ
question = 63

-- `L`, which stands before a wide constant
abbrev pub wide : ℕ
wide = 76

-- `[`
abbrev pub left_bracket : ℕ
left_bracket = 91

-- `\`
abbrev pub backslash : ℕ
backslash = 92

-- `]`
abbrev pub right_bracket : ℕ
right_bracket = 93

-- `^`
abbrev pub caret : ℕ
caret = 94

-- `_`
abbrev pub underscore : ℕ
underscore = 95

-- `{`
abbrev pub left_brace : ℕ
left_brace = 123

-- `|`
abbrev pub bar : ℕ
bar = 124

-- `}`
abbrev pub right_brace : ℕ
right_brace = 125

-- `~`, the last byte that prints
abbrev pub tilde : ℕ
tilde = 126

------ classes

-- a letter from `A` to `Z`
abbrev pub is_upper : ℕ → Bool
is_upper byte = nat_le 65 byte && nat_le byte 90

-- a letter from `a` to `z`
abbrev pub is_lower : ℕ → Bool
is_lower byte = nat_le 97 byte && nat_le byte 122

-- a letter (5.2.1)
abbrev pub is_letter : ℕ → Bool
is_letter byte = is_upper byte || is_lower byte

-- a letter or `_`, with which an identifier begins (6.4.2.1)
abbrev pub is_nondigit : ℕ → Bool
is_nondigit byte = is_letter byte || byte == underscore

-- a digit from `0` to `9` (6.4.2.1)
abbrev pub is_digit : ℕ → Bool
is_digit byte = nat_le zero_digit byte && nat_le byte nine_digit

-- a byte that may follow in an identifier (6.4.2.1)
abbrev pub is_identifier_byte : ℕ → Bool
is_identifier_byte byte = is_nondigit byte || is_digit byte

-- a space or a tab
abbrev pub is_blank : ℕ → Bool
is_blank byte = byte == space || byte == tab

-- what ends a line
abbrev pub is_newline : ℕ → Bool
is_newline byte = byte == newline

-- white space within a line (6.4): a space, a tab, a vertical tab, a form feed or a carriage return
abbrev pub is_line_space : ℕ → Bool
is_line_space byte =
    byte == space || byte == tab || byte == vertical_tab || byte == form_feed
    || byte == carriage_return

-- a byte that prints as one character
abbrev pub is_printable : ℕ → Bool
is_printable byte = nat_le space byte && nat_le byte tilde

------ texts

-- a text without bytes
abbrev pub is_empty : List ℕ → Bool
is_empty [] = true
is_empty (_ ∷ _) = false

-- the text is one of the words
abbrev pub is_among : List ℕ → List (List ℕ) → Bool
is_among text words = list_any (bytes_eq text) words
