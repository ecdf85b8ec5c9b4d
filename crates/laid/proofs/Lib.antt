pub mod WellLaid
