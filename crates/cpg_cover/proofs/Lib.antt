pub mod Kept
pub mod Known
pub mod CoverSearch
pub mod CoverSteps
pub mod CoverLaws
pub mod FewestLaws
pub mod GroundLaws
pub mod AlongLaws
