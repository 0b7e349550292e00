mod Lists
mod Meaning
mod GivingUp
mod Ending
mod Answering
