pub mod Trading
pub mod ZeroSide
pub mod OneSide
pub mod OneLeg
pub mod AllLegs
pub mod LegsPay
pub mod Settled
pub mod Kept
