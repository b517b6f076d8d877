pub mod HeadWithin
