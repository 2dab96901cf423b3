pub mod Unbroken
pub mod Agree
pub mod Settled
pub mod ScanLaws
pub mod CheckLaws
