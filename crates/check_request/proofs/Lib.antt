mod Requested
