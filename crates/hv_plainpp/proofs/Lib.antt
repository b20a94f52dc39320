pub mod CutPlaces
pub mod DirectivePlacement
pub mod ExpressionTrees
pub mod FilePlacement
pub mod Items
pub mod OrdinaryText
pub mod Partings
pub mod Placement
mod Rows
pub mod Starts
