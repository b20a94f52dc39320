-- The types of C. Read types.Plain (types as definitions see them), types.Erasure (which plain type
-- a declared type is), then types.Layouts (with types.Offsets, and types.Settled for what a table
-- of types promises), types.Compatible, types.Composite and types.Conversions in any order.
pub mod types
-- The tree of a program. Read tree.Expressions and tree.Statements (the tree as definitions see
-- it), then tree.Erase and tree.EraseStatements (which plain tree a declared tree is).
pub mod tree
