pub mod RoundedProducts
pub mod Sums
pub mod Reflection
