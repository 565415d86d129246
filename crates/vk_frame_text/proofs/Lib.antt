mod Places
mod Words
