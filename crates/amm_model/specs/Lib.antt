-- The ledger: what it has, what commands do to it, and what holds of it.
pub mod Refusals
pub mod Ledger
pub mod Outcome
pub mod Postings
pub mod Root
pub mod Swap
pub mod Formulas
pub mod Pools
pub mod Operations
pub mod Factory
pub mod Router
pub mod Observations
pub mod Oracle
pub mod WeightedPrices
pub mod CommandView
pub mod Meaning
pub mod Sound
pub mod Laws
-- Reading: the lines of bytes, and the command of a line.
pub mod Lines
pub mod Json
pub mod Forms
pub mod Reading
-- Replies: what a line is answered, its text, and a run over all lines.
pub mod Answers
pub mod ReplyText
pub mod Runs
-- Routing: problems, their paths and legs, bounds on what they can give, and certificates.
pub mod Routing
pub mod Legs
pub mod Paths
pub mod Values
pub mod Bound
pub mod Settled
pub mod Market
pub mod Spreads
pub mod SplitAnswers
pub mod Splits
pub mod Settlement
pub mod Baskets
pub mod Sales
pub mod Cycles
pub mod CycleRuns
pub mod Certificate
-- Words of the proofs: what is known of a command that was read, of a later ledger, of a ledger's
-- tables, and of ledgers as values. No promise to users speaks of them.
pub mod Fits
pub mod Later
pub mod Tidy
pub mod Codes
