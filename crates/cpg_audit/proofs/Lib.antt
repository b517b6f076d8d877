pub mod IdleLaws
pub mod GivesLaws
pub mod NarrowingLaws
