-- Types as definitions see them: without the program's pointers, with lists of their own.
use Rattle.std.specs.Prelude.{ℕ, Bool, List, Option}
use Rattle.hv_ctree.specs.declared.types.IntKind.{IntKind}

mutual
  -- a type: whether it is `const`, and its shape (6.2.5, 6.7.3)
  pub data PlainType : Type 0 where
    plain : Bool → PlainShape → PlainType

  -- a type without its qualifier: an enumeration, structure or union by its number, an array with
  -- its length where it is known, a function with its result, its parameters (their adjusted types,
  -- 6.7.5.3 paragraphs 7 and 8) and whether `...` ends them
  pub data PlainShape : Type 0 where
    void : PlainShape
    integer : IntKind → PlainShape
    enumeration : ℕ → PlainShape
    compound : ℕ → PlainShape
    pointer : PlainType → PlainShape
    array : PlainType → Option ℕ → PlainShape
    function : PlainType → Parameters → Bool → PlainShape

  -- the types of a function's parameters, in order
  pub data Parameters : Type 0 where
    no_parameter : Parameters
    parameter : PlainType → Parameters → Parameters

-- a member of a structure or union (6.7.2.1)
pub record PlainMember : Type 0 where
  pub name : List ℕ
  pub type : PlainType

-- a structure or union; without members it is incomplete (6.2.5 paragraph 22)
pub record PlainCompound : Type 0 where
  pub is_union : Bool
  pub tag : Option (List ℕ)
  pub members : Option (List PlainMember)

-- whether a type is `const`
abbrev pub is_const : PlainType → Bool
is_const (plain constant shape) = constant

-- a type without its qualifier
abbrev pub shape_in : PlainType → PlainShape
shape_in (plain constant shape) = shape
