mod Entries
mod Replaced
