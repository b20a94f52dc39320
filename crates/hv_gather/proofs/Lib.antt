-- Lemmas, each file named after the definitions that it is about.
pub mod AnswersLemmas
pub mod CutLemmas
pub mod ExtendsLemmas
pub mod LimitsLemmas
pub mod MentionsLemmas
pub mod SearchLemmas
pub mod SearchOrderLemmas
pub mod StepsLemmas
