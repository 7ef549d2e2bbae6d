pub mod BestWays
pub mod Frames
pub mod InTurn
