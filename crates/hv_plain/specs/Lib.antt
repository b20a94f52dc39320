-- The plain definitions that promises are stated by, one configuration at a time. Of small sources
-- read Source (lines, and what preprocessing keeps of them), Program (small programs and their
-- printed form), Run (runs, variants, what it is to encode a source), Config. Of controlling
-- expressions read controlling.Grammar (what derives which value), then Values, Constants and
-- Symbols. Of the expansion of macros read `episode`. Bytes is about blanks; `working` about the
-- reader's own steps.
pub mod Bytes
pub mod Config
pub mod Program
pub mod Run
pub mod Source
pub mod controlling
pub mod episode
pub mod gathering
pub mod working
