pub mod Doubles
pub mod TreeDoubles
pub mod HearLaws
pub mod PresentLaws
pub mod ActivityLaws
pub mod LawfulRows
pub mod TreeRows
