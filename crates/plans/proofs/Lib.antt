-- Lemmas: the day of a sheet.
mod Day
