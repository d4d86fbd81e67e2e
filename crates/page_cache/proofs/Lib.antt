mod Agreement
mod Kept
