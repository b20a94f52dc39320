-- The built-in headers and their texts. Not in here: what the library functions do.
use Rattle.std.specs.Prelude.{ℕ, List, [], ◌∷◌, ◌++◌, codes, Option, None, Some, cond}
use Rattle.std.specs.Str.{bytes_eq}
use Rattle.hv_base.specs.Ascii as ascii

-- lines, each with its newline
abbrev pub text_of_lines : List (List ℕ) → List ℕ
text_of_lines [] = []
text_of_lines (line ∷ lines) = line ++ ascii.newline ∷ text_of_lines lines

-- lines between the guard of a header, which is `__HC_` and the header's name in capitals, and its
-- end
abbrev pub guarded : (guard : List ℕ) → List (List ℕ) → List ℕ
guarded guard lines =
    text_of_lines (
    (codes "#ifndef " ++ guard) ∷
    (codes "#define " ++ guard) ∷
    (lines ++ codes "#endif" ∷ []))

-- common definitions (7.17)
-- SAME: headers
abbrev pub stddef : List ℕ
stddef = guarded (codes "__HC_STDDEF") (
    codes "typedef unsigned long size_t;" ∷
    codes "typedef long ptrdiff_t;" ∷
    codes "#define NULL ((void *)0)" ∷ [])

-- input and output (7.19)
abbrev pub stdio : List ℕ
stdio = guarded (codes "__HC_STDIO") (
    codes "#include <stddef.h>" ∷
    codes "#define EOF (-1)" ∷
    codes "int putchar(int);" ∷
    codes "int getchar(void);" ∷
    codes "int puts(const char *);" ∷
    codes "int printf(const char *, ...);" ∷ [])

-- general utilities (7.20)
abbrev pub stdlib : List ℕ
stdlib = guarded (codes "__HC_STDLIB") (
    codes "#include <stddef.h>" ∷
    codes "#define EXIT_SUCCESS 0" ∷
    codes "#define EXIT_FAILURE 1" ∷
    codes "void *malloc(size_t);" ∷
    codes "void *calloc(size_t, size_t);" ∷
    codes "void free(void *);" ∷
    codes "void exit(int);" ∷ [])

-- string handling (7.21)
abbrev pub string : List ℕ
string = guarded (codes "__HC_STRING") (
    codes "#include <stddef.h>" ∷
    codes "void *memcpy(void *, const void *, size_t);" ∷
    codes "void *memset(void *, int, size_t);" ∷ [])

-- sizes of integer types (7.10)
abbrev pub limits : List ℕ
limits = guarded (codes "__HC_LIMITS") (
    codes "#define CHAR_BIT 8" ∷
    codes "#define CHAR_MIN (-128)" ∷
    codes "#define CHAR_MAX 127" ∷
    codes "#define UCHAR_MAX 255" ∷
    codes "#define SHRT_MIN (-32768)" ∷
    codes "#define SHRT_MAX 32767" ∷
    codes "#define INT_MIN (-2147483647 - 1)" ∷
    codes "#define INT_MAX 2147483647" ∷
    codes "#define UINT_MAX 4294967295U" ∷
    codes "#define LONG_MIN (-9223372036854775807L - 1)" ∷
    codes "#define LONG_MAX 9223372036854775807L" ∷
    codes "#define ULONG_MAX 18446744073709551615UL" ∷ [])

-- boolean type and values (7.16)
abbrev pub stdbool : List ℕ
stdbool = guarded (codes "__HC_STDBOOL") (
    codes "#define bool _Bool" ∷
    codes "#define true 1" ∷
    codes "#define false 0" ∷ [])

-- integer types (7.18)
abbrev pub stdint : List ℕ
stdint = guarded (codes "__HC_STDINT") (
    codes "typedef signed char int8_t;" ∷
    codes "typedef short int16_t;" ∷
    codes "typedef int int32_t;" ∷
    codes "typedef long int64_t;" ∷
    codes "typedef unsigned char uint8_t;" ∷
    codes "typedef unsigned short uint16_t;" ∷
    codes "typedef unsigned int uint32_t;" ∷
    codes "typedef unsigned long uint64_t;" ∷ [])

-- the text of the built-in header of this name; `None` where there is none
-- SAME: headers
abbrev pub header_text : List ℕ → Option (List ℕ)
header_text name =
    cond (bytes_eq name (codes "stddef.h")) (Some stddef)
    (cond (bytes_eq name (codes "stdio.h")) (Some stdio)
    (cond (bytes_eq name (codes "stdlib.h")) (Some stdlib)
    (cond (bytes_eq name (codes "string.h")) (Some string)
    (cond (bytes_eq name (codes "limits.h")) (Some limits)
    (cond (bytes_eq name (codes "stdbool.h")) (Some stdbool)
    (cond (bytes_eq name (codes "stdint.h")) (Some stdint)
    None))))))
