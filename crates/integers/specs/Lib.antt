pub mod Parts
pub mod Order
pub mod Quotients
pub mod Ends
