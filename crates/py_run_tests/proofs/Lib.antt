mod Checking
