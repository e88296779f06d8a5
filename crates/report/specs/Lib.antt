pub mod Report
pub mod ReportLaws
pub mod Told
pub mod ToldLaws
