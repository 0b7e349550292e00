pub mod Lookups
mod Walked
mod Copied
mod SetNames
mod Rooms
mod OfModules
mod Spelled
mod Filled
mod Numbers
mod Places
mod Times
mod Listed
mod Changed
mod OwnNames
mod SetAt
mod Keys
