pub mod End
pub mod Flash
