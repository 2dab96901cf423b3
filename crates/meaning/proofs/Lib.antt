pub mod Readable
pub mod ReadableRows
pub mod ConvertedRows
pub mod SonLaws
pub mod SonListLaws
pub mod Worked
