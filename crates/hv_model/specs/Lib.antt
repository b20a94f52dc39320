-- What a model file says, and its valid configurations. Read Rule, then Name, Token and Grammar,
-- then Lines (`Reads`), and Model and ModelKind for what the reader answers; Config for the text of
-- a configuration; Valid for the diagram of the valid configurations; Beginning for the macros that
-- a translation unit begins with. Laws is for proofs above, `working` about the reader's own steps.
pub mod Beginning
pub mod Bytes
pub mod Config
pub mod Grammar
pub mod Laws
pub mod Lines
pub mod Model
pub mod ModelKind
pub mod Name
pub mod Rule
pub mod Token
pub mod Valid
pub mod working
