-- What the proofs of the calls use.
mod EventCounts
pub mod OneAnswer
