pub mod Renamed
pub mod RenamedLaws
