pub mod LinesLaws
pub mod Instants
pub mod Making
pub mod Parts
pub mod Imsak
pub mod Moments
pub mod SinceLaws
