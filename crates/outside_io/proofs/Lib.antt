pub mod ContentLaws
pub mod KnownLaws
pub mod PieceLaws
pub mod TakesLaws
pub mod GatherLaws
pub mod EventLaws
pub mod HostLaws
