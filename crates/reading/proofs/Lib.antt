pub mod LoadedLaws
pub mod Many
pub mod Stages
pub mod TabledLaws
