pub mod Hyperperiod
pub mod Unrolled
pub mod Refusals
pub mod Instances
pub mod Laws
