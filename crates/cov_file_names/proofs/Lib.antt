mod Colons
