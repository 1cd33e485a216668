-- Of the files of a desk in memory.
mod Files
