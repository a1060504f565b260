-- The scope paper as definitions: what a reader must believe, and all of it. Natural numbers, lists and remainders only.
-- Read beside the paper, in this order:
--   Number        sums, lists written entry by entry, negatives, inverses
--   Family        the modulus (the paper's channel number m), rows, the family, the polynomials F and G, what is accepted
--   Conversion    Expand, Adjoint, Decompose
--   Orthogonality reversal, Moments, Norms, the product law
--   Refusals      the tests of each call in their order; the verdict is the first that holds
--   Answers       what an answer says, what the lent lists hold after it, and the promises of the calls
--   Figures       P1 to P12 and examples of our own, computed
--   Text          the job text, the answer text and the refusal text, each by its writer; the job that a written job means
--   Reading       how a job text is read
--   TextCall      the tests of the text call in their order, what it hands out, and its promise
--   JobWriting    the tests of the call that writes a job text in their order, and its promise
--   Prepared      the record of a family, what it means that a record is right, its changes with their tests and promises
--   PreparedCalls the tests and promises of the operations on a record
--   Printing      what the program prints for the bytes that it reads
--   TextExamples  the paper's job and its answer byte for byte, texts that are refused, and what is printed for each, computed
--   RefusalExamples  every fault at once, and then one after another mended, computed
--   PromiseExamples  the outcome that each promise allows of the paper's family and job, computed
--   PreparedExamples  the record of the paper's family, what breaks a record, and changes one after another, computed
-- Assumes nothing.
pub mod Number
pub mod Family
pub mod Conversion
pub mod Orthogonality
pub mod Refusals
pub mod Answers
pub mod Figures
pub mod Text
pub mod Reading
pub mod TextCall
pub mod JobWriting
pub mod Prepared
pub mod PreparedCalls
pub mod Printing
pub mod TextExamples
pub mod RefusalExamples
pub mod PromiseExamples
pub mod PreparedExamples
