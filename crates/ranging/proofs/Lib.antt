pub mod PullLaws
pub mod NarrowedLaws
pub mod SizedLaws
pub mod Said
