mod AboveZero
