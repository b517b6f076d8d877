pub mod TableText
pub mod NodeText
pub mod Sheet
pub mod TraceEvents
pub mod TraceText
