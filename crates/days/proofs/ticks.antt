pub mod YearTicks
