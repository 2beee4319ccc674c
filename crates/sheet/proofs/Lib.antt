-- Laws of the definitions, a file for each file of specs/, and of what is put for each weekday.
pub mod HourLaws
pub mod WeekLaws
pub mod TableLaws
pub mod CsvLaws
pub mod Examples
