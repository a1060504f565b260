-- Texts: what is written is read back, and what is read was written; how long an answer and a job are; writing into lent bytes. Assumes nothing.
pub mod Decimal
pub mod DecimalReading
pub mod NumbersReading
pub mod LinesReading
pub mod Texts
pub mod AnswerTexts
pub mod JobTexts
pub mod Overwriting
