pub mod Cases
pub mod Computed
pub mod Ieee
pub mod Logic
