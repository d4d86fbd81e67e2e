mod Lists
mod Changes
mod Standings
mod Judged
mod Rows
