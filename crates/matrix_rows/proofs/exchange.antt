mod Pairs
mod Places
