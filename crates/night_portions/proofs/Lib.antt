pub mod Sevenths
pub mod Steady
pub mod Thirds
pub mod Halves
pub mod PortionsLaws
pub mod BoundsLaws
pub mod OrderPortions
