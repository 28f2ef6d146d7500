mod Calls
mod Seats
