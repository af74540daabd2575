mod Reading
mod Words
