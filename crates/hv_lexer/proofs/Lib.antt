pub mod ByteTests
pub mod CommentLemmas
pub mod CursorsLemmas
mod Examples
pub mod HeaderNames
pub mod LongerLemmas
mod LongestExamples
pub mod LongestLemmas
pub mod LongestStops
pub mod LongestTokens
pub mod MadeOf
pub mod OneAnswer
pub mod Pieces
pub mod PrefixCases
pub mod PunctuatorTable
pub mod Punctuators
pub mod Reaches
pub mod ReadsBack
pub mod Rises
pub mod Spellings
pub mod Spliced
pub mod SplicesLemmas
pub mod TokenLemmas
pub mod Total
pub mod Unspliced
pub mod WholeToken
